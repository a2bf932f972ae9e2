-- The game to which the text of a tier belongs.
use Rattle.std.specs.Prelude.{◌≡◌, ◌≢◌, ℕ, ◌-◌, ◌<◌, ◌≤◌, ◌⊎◌, List, ◌++◌, length, take, drop, codes}
use Rattle.std.specs.Fmt.{decimal}
use Rattle.sha2.specs.Sha256.{sha256}

-- an intact text of a tier's file, of any version: it begins as all of them do, and ends with the digest of all bytes before it
pub record IsIntact (text : List ℕ) : Type 0 where
  pub long : 72 ≤ length text
  pub begins : take 6 text ≡ codes "GMTIER"
  pub digest : drop (length text - 32) text ≡ sha256 (take (length text - 32) text)

-- the name of the game in a tier's file
abbrev pub owner_of : List ℕ → List ℕ
owner_of text = take 16 (drop 8 text)

-- the text is an intact file of another game than the one that these bytes name
abbrev pub IsAnothers : List ℕ → List ℕ → Type 0
IsAnothers text bytes = IsIntact text × ((length bytes < 24) ⊎ (owner_of text ≢ owner_of bytes))

-- the path of a tier's file in a folder
abbrev pub path_text : List ℕ → ℕ → List ℕ → List ℕ
path_text folder tier ending = folder ++ codes "/tier-" ++ decimal tier ++ codes "." ++ ending
