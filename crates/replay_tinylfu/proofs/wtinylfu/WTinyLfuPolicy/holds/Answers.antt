use Rattle.std.proofs.Common.{ap, ◌∙◌}
use Rattle.policy_model.specs.States.{has_member}
use Rattle.policy_model.specs.WTinyLfu.{segment_entries}
use Rattle.policy_model.proofs.Replays.{has_entry-members}
use Rattle.replay_core.specs.Keeping.{Kept, contents_of}
use Rattle.replay_tinylfu.proofs.wtinylfu.WTinyLfuPolicy.holds.Goals as goal

pub returns : goal.returns
returns c = c.holds.ensures.there ∙ has_entry-members (segment_entries c.self.inside.ring.segments) c.args.object ∙ ap (λ (p : Kept). has_member (contents_of p) c.args.object) c.self.view_is
