use Rattle.std.proofs.Common.{ap, is_some, ◌∙◌}
use Rattle.policy_model.specs.States.{has_member}
use Rattle.replay_core.specs.Keeping.{Kept, contents_of}
use Rattle.replay_rank.proofs.AgingAnswers.{holds-member}
use Rattle.replay_rank.proofs.gdsf98.Gdsf98Policy.holds.Goals as goal

pub returns : goal.returns
returns c =
    c.is_some.ensures ∙ ap is_some c.get.ensures.found ∙ holds-member c.self.inside.holdings c.args.object ∙ ap (λ (p : Kept). has_member (contents_of p) c.args.object) c.self.view_is
