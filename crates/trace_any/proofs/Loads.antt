-- What is left, and what was read, once a reader that began with a source is at its end.
use Rattle.std.proofs.Common.{◌≡◌, ℕ, ap, subst, arith, length, length-append, List, [], ◌++◌, Option, Some, None, IfSome}
use Rattle.std.specs.Option.{is_some, unwrap_or}
use Rattle.std.proofs.lemmas.Bool.{false≢true}
use Rattle.std.proofs.lemmas.List.{nil_from_length}
use Rattle.bound_io.specs.Lines.{stands_in}
use Rattle.bound_io.specs.Devices.{device}
use Rattle.cache_rules.specs.Stored.{Requests}
use Rattle.freshness.specs.Seen.{Seen}
use Rattle.trace_any.specs.declared.format.Format.{Format}
use Rattle.trace_any.specs.declared.format.Limits.{Limits}
use Rattle.trace_any.specs.Readings.{Reading, full_limits, reading}
use Rattle.trace_any.specs.Readers.{Reader, IsWhole, fresh, to_come, known}
use Rattle.trace_any.specs.Loads.{IsLoaded, IsRead}
use Rattle.trace_any.proofs.Coming.{fresh_to_come}

-- where nothing is left to stand in, the source has nothing left
left_nothing : (held : List ℕ) (left : Option (List ℕ)) → stands_in held left ≡ Some [] → left ≡ Some []
left_nothing held None end = absurd (false≢true (ap is_some end))
left_nothing held (Some rest) end =
    let all : held ++ rest ≡ [] = ap (λ o. unwrap_or o []) end in
    ap (λ l. Some l) (nil_from_length rest (omega (arith, length-append held rest, ap length all)))

pub nothing_left : (before left : Option (List ℕ)) (held : List ℕ) → IfSome before (λ _. stands_in held left ≡ Some []) → IfSome before (λ _. left ≡ Some [])
nothing_left None left held end = tt
nothing_left (Some bytes) left held end = left_nothing held left end

-- of a reader that has read nothing, what is to come of the bytes in which it stands is the reading of all that its source has left
pub from_start_within : (limits : Limits) (format : Format) (r : Reader) (left : Option (List ℕ)) (P : Reading → Type 0) → r ≡ fresh format limits → IfSome (known r left) (λ bytes. P (to_come r bytes)) → IfSome left (λ bytes. P (reading format limits bytes))
from_start_within limits format r left P new holds = by left (subst (λ (s : Reader). IfSome (known s left) (λ bytes. P (to_come s bytes))) new holds)
  where
    by : (before : Option (List ℕ)) → IfSome (known (fresh format limits) before) (λ bytes. P (to_come (fresh format limits) bytes)) → IfSome before (λ bytes. P (reading format limits bytes))
    by None h = tt
    by (Some bytes) h = subst P (fresh_to_come format limits bytes) h

pub from_start : (format : Format) (r : Reader) (left : Option (List ℕ)) (P : Reading → Type 0) → r ≡ fresh format full_limits → IfSome (known r left) (λ bytes. P (to_come r bytes)) → IfSome left (λ bytes. P (reading format full_limits bytes))
from_start format r left P new holds = from_start_within full_limits format r left P new holds

-- and it stands in what its source has left
pub known-start : (format : Format) (r : Reader) (left : Option (List ℕ)) (P : Type 0) → r ≡ fresh format full_limits → IfSome (known r left) (λ bytes. P) → IfSome left (λ bytes. P)
known-start format r left P new holds = from_start format r left (λ _. P) new holds

-- what a reader that has read nothing reads is the trace of all that the source had left
pub read_all : (limits : Limits) (format : Format) (before after : Option (List ℕ)) (faults_before faults_after : ℕ) (requests : Requests) (dropped : ℕ) (seen : Seen)
    → IfSome (known (fresh format limits) before) (λ bytes. IsWhole (to_come (fresh format limits) bytes) requests dropped)
    → IfSome (known (fresh format limits) before) (λ bytes. (to_come (fresh format limits) bytes).seen ≡ seen)
    → IfSome (known (fresh format limits) before) (λ bytes. after ≡ Some []) → IsRead limits format (device before after faults_before faults_after) requests (record { dropped = dropped; noted = seen.noted })
read_all limits format None after faults_before faults_after requests dropped seen whole noted end = record { read = tt; noted = tt; nothing_left = tt }
read_all limits format (Some bytes) after faults_before faults_after requests dropped seen whole noted end =
    record { read = rw (fresh_to_come) at whole; noted = ap (λ s. s.noted) (rw (fresh_to_come) at noted); nothing_left = end }

pub loaded_all : (format : Format) (before after : Option (List ℕ)) (faults_before faults_after : ℕ) (requests : Requests) (dropped : ℕ) (seen : Seen)
    → IfSome (known (fresh format full_limits) before) (λ bytes. IsWhole (to_come (fresh format full_limits) bytes) requests dropped)
    → IfSome (known (fresh format full_limits) before) (λ bytes. (to_come (fresh format full_limits) bytes).seen ≡ seen)
    → IfSome (known (fresh format full_limits) before) (λ bytes. after ≡ Some []) → IsLoaded format (device before after faults_before faults_after) requests (record { dropped = dropped; noted = seen.noted })
loaded_all = read_all full_limits
