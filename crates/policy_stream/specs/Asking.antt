-- What a request that is read asks of a policy.
use Rattle.std.specs.Prelude.{ℕ, None}
use Rattle.std.specs.declared.option.Option.{Option}
use Rattle.replay_steps.specs.declared.asked.Asked.{Asked}
use Rattle.policy_stream.specs.declared.request.Request.{Request}

-- what it asks, if its object has this number, and it replaces the other; nothing is known of the object's next request
abbrev pub asked_of : Request → ℕ → Option ℕ → Asked
asked_of request number replaced = record {
  object = number;
  size = request.object.size;
  next = None;
  is_stale = request.is_stale;
  replaced = replaced;
  is_past = request.is_past;
  only_fills = request.only_fills;
}
