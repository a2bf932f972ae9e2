use Rattle.gamesman.proofs.Lower.{ap, ◌∙◌, ◌++◌, on_ok_weaker}
use Rattle.serde_json.proofs.Views.{view-Object}
use Rattle.gm_json.specs.Words.{line_of}
use Rattle.gamesman.specs.Listing.{data_of}
use Rattle.gamesman.proofs.Entries.{entry_no_float}
use Rattle.gamesman.proofs.listing.push_entry.Goals as goal

pub push_line-requires : goal.push_line-requires
push_line-requires c =
    entry_no_float _ (data_of c.args.entry.now) c.args.texts.now.start.items c.args.texts.now.title.now
    (view-Object c.put_entry.new.members ∙ c.in_ok-put_entry.ensures)

pub returns : goal.returns
returns c =
    on_ok_weaker c.push_line.result
    (λ e. e ∙ ap (λ d. c.args.lines.now.items ++ line_of d) (view-Object c.put_entry.new.members ∙ c.in_ok-put_entry.ensures)) c.push_line.ensures
