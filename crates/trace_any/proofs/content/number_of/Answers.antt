use Rattle.std.proofs.Common.{◌≡◌, List, Some, refl, subst, rules}
use Rattle.std.specs.Result.{IfOk, OnOk}
use Rattle.trace_lines.specs.declared.line.Span.{Span}
use Rattle.trace_lines.specs.declared.line.Span.TheVariants.{Nothing, One, Blocks}
use Rattle.trace_any.specs.Volumes.{Volume, volume_number, with_volume}
use Rattle.trace_any.specs.Readers.{number_by, with_named_by}
use Rattle.trace_any.proofs.content.number_of.Goals as goal

-- a line that asks for something numbers the volume that it names
numbers : (span : Span) (volumes : List Volume) (v : Volume) → (span ≡ Nothing → ⊥) → volume_number volumes v ≡ number_by span volumes (Some v)
numbers Nothing volumes v something = absurd (something refl)
numbers (One id size) volumes v something = refl
numbers (Blocks first count size) volumes v something = refl

-- and notes it
notes : (span : Span) (volumes : List Volume) (v : Volume) → (span ≡ Nothing → ⊥) → with_volume volumes v ≡ with_named_by span volumes (Some v)
notes Nothing volumes v something = absurd (something refl)
notes (One id size) volumes v something = refl
notes (Blocks first count size) volumes v something = refl

-- where a volume is numbered, the line asks for something
asks : (c : goal.After-number) → c.args.content.now.span ≡ Nothing → ⊥
asks c nothing = search (rules, c.eq.ensures, c.if-eq.false, nothing)

pub returns-in-Some-clause-number : goal.returns-in-Some-clause-number
returns-in-Some-clause-number c =
    let v : Volume = record { host = c.in-Some.host.now; disk = c.in-Some.disk } in
    rw c.in-Some.is (subst (λ number. IfOk c.number.result (λ n. n ≡ number)) (numbers c.args.content.now.span c.args.volumes.now v (asks c)) c.number.ensures.number)

pub returns-in-Some-clause-volumes : goal.returns-in-Some-clause-volumes
returns-in-Some-clause-volumes c =
    let v : Volume = record { host = c.in-Some.host.now; disk = c.in-Some.disk } in
    rw c.in-Some.is (subst (λ volumes. OnOk c.number.result (c.number.new.self ≡ volumes)) (notes c.args.content.now.span c.args.volumes.now v (asks c)) c.number.ensures.volumes)
