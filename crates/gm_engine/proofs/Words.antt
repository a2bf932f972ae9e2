-- Records of four bytes each.
use Rattle.gm_engine.proofs.Lower.{◌≡◌, ◌≤◌, ◌<◌, ◌+◌, ◌++◌, ℕ, suc, List, [], ◌∷◌, Option, Some, length, map, take, drop, get_or, sym, ap, arith, ◌∙◌, take_more, slice_get-get_or, Solved, unpacked, words_of}
use Rattle.std.proofs.Common.{◌/◌, ◌%◌, zero, None, refl, ◌*◌}
use Rattle.std.proofs.lemmas.List.{append_assoc, map-append, append-nil}
use Rattle.gm_table.specs.Tables.{record_at}

-- four bytes are one word, and the later bytes are the others
pub words_next : (bytes : List ℕ) → 4 ≤ length bytes → words_of bytes ≡ words_of (take 4 bytes) ++ words_of (drop 4 bytes)
words_next [] few = absurd (omega arith)
words_next (a ∷ []) few = absurd (omega arith)
words_next (a ∷ b ∷ []) few = absurd (omega arith)
words_next (a ∷ b ∷ c ∷ []) few = absurd (omega arith)
words_next (a ∷ b ∷ c ∷ d ∷ rest) few = refl

-- fewer bytes are no word
pub words_none : (bytes : List ℕ) → length bytes < 4 → words_of bytes ≡ []
words_none [] few = refl
words_none (a ∷ []) few = refl
words_none (a ∷ b ∷ []) few = refl
words_none (a ∷ b ∷ c ∷ []) few = refl
words_none (a ∷ b ∷ c ∷ d ∷ rest) few = absurd (omega arith)

-- the records of one more word
pub packed_next : (all rest word later : List ℕ) (number : ℕ) (records : List (Option Solved)) → 4 ≤ length rest
    → records ++ map unpacked (words_of rest) ≡ map unpacked (words_of all) → word ≡ take 4 rest → later ≡ drop 4 rest → words_of word ≡ number ∷ []
    → (records ++ unpacked number ∷ []) ++ map unpacked (words_of later) ≡ map unpacked (words_of all)
packed_next all rest word later number records long so front back is =
    let cut : words_of rest ≡ number ∷ words_of later =
    words_next rest long ∙ ap (λ (v : List ℕ). words_of v ++ words_of (drop 4 rest)) (sym front) ∙ ap (λ (v : List ℕ). v ++ words_of (drop 4 rest)) is
    ∙ ap (λ (v : List ℕ). number ∷ words_of v) (sym back) in
    append_assoc records (unpacked number ∷ []) (map unpacked (words_of later)) ∙ ap (λ (v : List ℕ). records ++ map unpacked v) (sym cut) ∙ so

-- and of the last one
pub packed_all : (all rest : List ℕ) (records : List (Option Solved)) → length rest < 4 → records ++ map unpacked (words_of rest) ≡ map unpacked (words_of all)
    → records ≡ map unpacked (words_of all)
packed_all all rest records few so =
    sym (append-nil records) ∙ ap (λ (v : List ℕ). records ++ map unpacked v) (sym (words_none rest few)) ∙ so

-- words after whole words
words_more : (n : ℕ) (xs ys : List ℕ) → length xs ≡ 4 * n → words_of (xs ++ ys) ≡ words_of xs ++ words_of ys
words_more n [] ys long = refl
words_more n (a ∷ []) ys long = absurd (omega arith)
words_more n (a ∷ b ∷ []) ys long = absurd (omega arith)
words_more n (a ∷ b ∷ c ∷ []) ys long = absurd (omega arith)
words_more zero (a ∷ b ∷ c ∷ d ∷ rest) ys long = absurd (omega arith)
words_more (suc n) (a ∷ b ∷ c ∷ d ∷ rest) ys long =
    let shorter : length rest ≡ 4 * n = omega arith in
    ap (λ (v : List ℕ). (a + 256 * b + 65536 * c + 16777216 * d) ∷ v) (words_more n rest ys shorter)

-- one more record at the end
pub word_more : (records : List (Option Solved)) (more word : List ℕ) (i number : ℕ) → i < length records → length more ≡ 4 * i
    → map unpacked (words_of more) ≡ take i records → words_of word ≡ number ∷ [] → unpacked number ≡ record_at records i
    → map unpacked (words_of (more ++ word)) ≡ take (i + 1) records
word_more records more word i number within long same is here =
    let at : record_at records i ≡ get_or records i None = ap (λ (o : Option (Option Solved)). elim o [ None ↦ None | Some x ↦ x ]) (slice_get-get_or records i None within) in
    ap (map unpacked) (words_more i more word long ∙ ap (λ (v : List ℕ). words_of more ++ v) is) ∙ map-append unpacked (words_of more) (number ∷ [])
    ∙ ap (λ (v : List (Option Solved)). v ++ unpacked number ∷ []) same ∙ ap (λ (v : Option Solved). take i records ++ v ∷ []) (here ∙ at)
    ∙ sym (take_more records i None within)

-- the number of four bytes, and the bytes of a number
pub word_is : (w : List ℕ) (a b c d : ℕ) → length w ≡ 4 → get_or w 0 0 ≡ a → get_or w 1 0 ≡ b → get_or w 2 0 ≡ c → get_or w 3 0 ≡ d
    → words_of w ≡ (a + 256 * b + 65536 * c + 16777216 * d) ∷ []
word_is [] a b c d long p q r s = absurd (omega arith)
word_is (x ∷ []) a b c d long p q r s = absurd (omega arith)
word_is (x ∷ y ∷ []) a b c d long p q r s = absurd (omega arith)
word_is (x ∷ y ∷ z ∷ []) a b c d long p q r s = absurd (omega arith)
word_is (x ∷ y ∷ z ∷ u ∷ []) a b c d long p q r s =
    ap (λ (n : ℕ). n ∷ []) (let same : x + 256 * y + 65536 * z + 16777216 * u ≡ a + 256 * b + 65536 * c + 16777216 * d = omega arith in same)
word_is (x ∷ y ∷ z ∷ u ∷ v ∷ rest) a b c d long p q r s = absurd (omega arith)

pub word_again : (n : ℕ) → (n % 256 + 256 * (n / 256 % 256) + 65536 * (n / 65536 % 256) + 16777216 * (n / 16777216)) ∷ [] ≡ n ∷ []
word_again n = ap (λ (m : ℕ). m ∷ []) (let whole : n % 256 + 256 * (n / 256 % 256) + 65536 * (n / 65536 % 256) + 16777216 * (n / 16777216) ≡ n = omega arith in whole)

-- four bytes more at the end
pub word_at_end : (xs more old new word : List ℕ) → old ≡ xs ++ more → new ≡ old ++ word → new ≡ xs ++ (more ++ word)
word_at_end xs more old new word is pushed = pushed ∙ ap (λ (v : List ℕ). v ++ word) is ∙ append_assoc xs more word
