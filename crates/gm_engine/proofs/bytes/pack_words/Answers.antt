use Rattle.gm_engine.proofs.Lower.{rules, ◌≡◌, ◌≤◌, ◌<◌, ◌++◌, ◌∷◌, [], List, Option, length, map, subst, sym, arith, Solved, unpacked, words_of}
use Rattle.gm_engine.proofs.Words.{packed_next, packed_all}
use Rattle.gm_engine.proofs.bytes.pack_words.Goals as goal

pub loop-rest-preserved : goal.loop-rest-preserved
loop-rest-preserved c =
    let test = c.loop-rest-test.true in
    let ok = c.if-is_err.ensures.negation in
    let long : 4 ≤ length c.loop-rest.rest.now = omega arith in
    let pushed : c.push.new.self ≡ c.loop-rest.packed ++ unpacked c.number_in.result ∷ [] = search rules in
    subst (λ (v : List (Option Solved)). v ++ map unpacked (words_of c.split_at.result.1.now) ≡ map unpacked (words_of c.args.bytes.now)) (sym pushed)
    (packed_next c.args.bytes.now c.loop-rest.rest.now c.split_at.result.0.now c.split_at.result.1.now c.number_in.result c.loop-rest.packed long c.loop-rest.invariant
    c.split_at.ensures.front c.split_at.ensures.back c.number_in.ensures)

pub returns-clause-records : goal.returns-clause-records
returns-clause-records c =
    let test = c.loop-rest-test.false in
    let few : length c.loop-rest.rest.now < 4 = omega arith in
    packed_all c.args.bytes.now c.loop-rest.rest.now c.loop-rest.packed few c.loop-rest.invariant
