use Rattle.std.proofs.Common.{◌≡◌, Some, None, subst, rules}
use Rattle.trace_any.specs.Readings.{TakesMemory}
use Rattle.trace_any.specs.Readers.{Reader}
use Rattle.trace_any.proofs.stream.RequestStream.next.Goals as goal

pub returns-in-Err-clause-memory : goal.returns-in-Err-clause-memory
returns-in-Err-clause-memory g c none no_memory = subst (λ (r : Reader). TakesMemory r.format) c.self.view_is (c.in-Err.ensures.memory no_memory)

pub invariant_of-self : goal.invariant_of-self
invariant_of-self g c = (λ none. absurd (some none), c.in-Err.ensures.few.0, c.in-Err.ensures.few.1, c.in-Err.ensures.ahead, c.in-Err.ensures.late)
  where
    some : Some c.in-Err.fault ≡ None → ⊥
    some e = search rules

pub invariant_of-self-in_default-found : goal.invariant_of-self-in_default-found
invariant_of-self-in_default-found g c = (λ _. c.in_default-found.ensures.no_fault, c.in_default-found.ensures.few.0, c.in_default-found.ensures.few.1, c.in_default-found.ensures.ahead, c.in_default-found.ensures.late)

pub returns-in_default-found-clause-next : goal.returns-in_default-found-clause-next
returns-in_default-found-clause-next g c none = search (rules, c.in_default-found.ensures.next, c.self.view_is, none)
