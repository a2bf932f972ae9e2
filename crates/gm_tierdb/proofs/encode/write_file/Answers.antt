use Rattle.gm_tierdb.proofs.Lower.{◌≡◌, ◌++◌, ap, ◌∙◌, length, flat_map, to_le_bytes, sha256, record_bytes, magic}
use Rattle.std.specs.Int.{w64}
use Rattle.gm_tierdb.specs.TierText.{body, version_text}
use Rattle.gm_tierdb.proofs.RecordLemmas.{storable_for}
use Rattle.gm_tierdb.proofs.encode.write_file.Goals as goal

pub push_records-requires : goal.push_records-requires
push_records-requires g c = storable_for c.args.version g.G.Game.rules c.args.table.now c.size-size.ensures.table c.requires

pub returns : goal.returns
unfolding version_text
returns g c =
    let v = c.args.version in
    let r = g.G.Game.rules in
    let t = c.args.table.now in
    let is = c.size-size.ensures.table in
    let magical : c.extend_from_slice.new.self.items ≡ magic v =
    c.in_ok-extend_from_slice.ensures.items ∙ (λ i. c.clear.ensures.items i ++ c.magic.ensures i) in
    let named : c.extend_from_slice-2.new.self.items ≡ magic v ++ r.name = c.in_ok-extend_from_slice-2.ensures.items ∙ (λ i. magical i ++ c.name.ensures i) in
    let tiered : c.push_u64.new.file.items ≡ magic v ++ r.name ++ to_le_bytes w64 t.tier =
    c.in_ok-push_u64.ensures ∙ (λ i. named i ++ to_le_bytes w64 (c.tier.ensures.value i)) in
    let sized : c.push_u64-2.new.file.items ≡ magic v ++ r.name ++ to_le_bytes w64 t.tier ++ to_le_bytes w64 (length t.records) =
    c.in_ok-push_u64-2.ensures ∙ (λ i. tiered i ++ to_le_bytes w64 (c.size-size.ensures.value i)) in
    let whole : c.push_records.new.file.items ≡ body v r.name t.tier t.records =
    c.in_ok-push_records.ensures ∙ ap (λ l. l ++ flat_map (record_bytes v) t.records) sized in
    let digest : c.digest-digest.result ≡ sha256 (body v r.name t.tier t.records) = c.digest-digest.ensures ∙ ap sha256 (c.as_slice.ensures.value ∙ whole) in
    record {
      whole = is.is_true.whole;
      storable = storable_for v r t is c.requires;
      text = c.in_ok-extend_from_slice-3.ensures.items ∙ (λ i. whole i ++ digest i);
    }
