use Rattle.gm_build.proofs.Lower.{sym, ◌∙◌}
use Rattle.gm_build.proofs.WholeLines.{line_written}
use Rattle.gm_build.proofs.whole_line.write_line.Goals as goal

-- src/whole_line.rt:13:1
pub returns : goal.returns
returns g c =
    let ok = sym c.is_err.ensures.value ∙ c.if-is_err.false in
    let e = c.as_bytes.ensures.value ∙ c.deref.ensures.0 in
    line_written _ (λ s. s.bytes) (λ w bs v h. h) c.new-line.result c.writeln.new.self c.new-line.ensures
    (g.T.Display.output c.args.words.now) c.writeln.result ok
    c.writeln.ensures.writes _ _ c.as_bytes.result.now e c.write_all.result c.write_all.ensures.bytes
