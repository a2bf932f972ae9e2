use Rattle.serde_json.specs.View.{view}
use Rattle.gm_json.proofs.Objects.{id_given}
use Rattle.gm_json.proofs.object_answer.object_answer.Goals as goal

pub texts_answer-requires : goal.texts_answer-requires
texts_answer-requires g c = id_given (λ v. view v.now) c.id_of-id.result (view c.args.tree.now) c.id_of-id.ensures

pub no_question-requires : goal.no_question-requires
no_question-requires g c = id_given (λ v. view v.now) c.id_of-id.result (view c.args.tree.now) c.id_of-id.ensures
