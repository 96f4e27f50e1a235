-- Parts of what is told.
use Rattle.std.proofs.Common.{◌≡◌, ◌+◌, ◌∙◌, refl, sym, ap, [], ◌++◌, length, arith, append-nil, append_assoc, length-append}
use Rattle.policy_sweep.specs.Running.{Told}
use Rattle.policy_stream.specs.declared.request.Request.{Request}
use Rattle.policy_stream.specs.Streams.{IsOneMore, IsPartOf}

pub whole-part : (told : Told) → IsPartOf told told
whole-part told = record {
  rest = [];
  trace = sym (append-nil told.trace);
  fills = λ t within. refl;
  stale = λ t within. refl;
  replace = refl;
  warmup = refl;
}

-- one request more
pub next-length : (told next : Told) (request : Request) → IsOneMore told next request → length next.trace ≡ length told.trace + 1
next-length told next request more = omega (arith, ap length more.part.trace, length-append told.trace more.part.rest, ap length more.one)

-- a part of a part
pub before-part : (told next all : Told) (request : Request) → IsOneMore told next request → IsPartOf next all → IsPartOf told all
before-part told next all request more part =
    let longer : length next.trace ≡ length told.trace + 1 = next-length told next request more in
    record {
      rest = more.part.rest ++ part.rest;
      trace = part.trace ∙ ap (λ xs. xs ++ part.rest) more.part.trace ∙ append_assoc told.trace more.part.rest part.rest;
      fills = λ t within. part.fills t (omega (arith, within, longer)) ∙ more.part.fills t within;
      stale = λ t within. part.stale t (omega (arith, within, longer)) ∙ more.part.stale t within;
      replace = part.replace ∙ more.part.replace;
      warmup = part.warmup ∙ more.part.warmup;
    }
