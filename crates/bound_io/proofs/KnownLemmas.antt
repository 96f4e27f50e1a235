-- One write after another, and one read after another.
use Rattle.std.proofs.Common.{◌≡◌, ◌∙◌, ◌⊎◌, inr, ℕ, ◌+◌, List, [], ◌++◌, Option, None, Some, Result, Ok, Err, IfErr, OnOk, take, drop, append_assoc, arith, refl, subst}
use Rattle.std.proofs.Math.Seq.{take-add}
use Rattle.std.specs.Io.KnownBytes.{Appends, Consumes, Keeps}
use Rattle.bound_io.specs.Devices.{device}
use Rattle.bound_io.specs.Lines.{stands_in}
use Rattle.bound_io.specs.Reading.{LosesPrefix, ReadsSource}

-- a prefix of the bytes, and then the next of them
pub appends_more : (old mid new : Option (List ℕ)) (bytes : List ℕ) (at n : ℕ) → Appends old mid (take at bytes) → Appends mid new (take n (drop at bytes)) → Appends old new (take (at + n) bytes)
appends_more None mid new bytes at n so_far next = tt
appends_more (Some xs) None new bytes at n so_far next = absurd so_far
appends_more (Some xs) (Some ys) None bytes at n so_far next = absurd next
appends_more (Some xs) (Some ys) (Some zs) bytes at n so_far next = rw (next, so_far, take-add at n bytes, append_assoc) refl

-- some bytes, and then more of them
consumes_more : (old mid new : Option (List ℕ)) (prefix more : List ℕ) → Consumes old mid prefix → Consumes mid new more → Consumes old new (prefix ++ more)
consumes_more None mid new prefix more so_far next = tt
consumes_more (Some xs) None new prefix more so_far next = absurd so_far
consumes_more (Some xs) (Some ys) None prefix more so_far next = absurd next
consumes_more (Some xs) (Some ys) (Some zs) prefix more so_far next = rw (so_far, next, append_assoc) refl

-- held bytes with more from the source stand for the same bytes
pub keeps_more : (old new : Option (List ℕ)) (held more : List ℕ) → Consumes old new more → Keeps (stands_in held old) (stands_in (held ++ more) new)
keeps_more None new held more taken = tt
keeps_more (Some xs) None held more taken = absurd taken
keeps_more (Some xs) (Some ys) held more taken = rw (taken, append_assoc) refl

-- what is kept stays so where it is kept again
pub keeps_then : (old mid new : Option (List ℕ)) → Keeps old mid → Keeps mid new → Keeps old new
keeps_then None mid new first second = tt
keeps_then (Some xs) None new first second = absurd first
keeps_then (Some xs) (Some ys) None first second = absurd second
keeps_then (Some xs) (Some ys) (Some zs) first second = rw first at second

-- a prefix that is lost, and then some more
pub loses_then : (old mid new : Option (List ℕ)) (more : List ℕ) → LosesPrefix old mid → Consumes mid new more → LosesPrefix old new
loses_then old mid new more first taken = (first.0 ++ more, consumes_more old mid new first.0 more first.1 taken)

-- what stands behind held bytes is kept, and they stay the same
pub keeps_behind : (old new : Option (List ℕ)) (held : List ℕ) → Keeps old new → Keeps (stands_in held old) (stands_in held new)
keeps_behind None new held kept = tt
keeps_behind (Some xs) None held kept = absurd kept
keeps_behind (Some xs) (Some ys) held kept = rw kept refl

-- a prefix that is lost, and then nothing more
pub loses_still : (old mid new : Option (List ℕ)) → LosesPrefix old mid → Keeps mid new → LosesPrefix old new
loses_still None mid new first kept = ([], tt)
loses_still (Some xs) None new first kept = absurd first.1
loses_still (Some xs) (Some ys) None first kept = absurd kept
loses_still (Some xs) (Some ys) (Some zs) first kept = (first.0, rw kept first.1)

-- what holds holds on an Ok
on_ok : {A E : Type 0} {P : Type 0} (result : Result A E) → P → OnOk result P
on_ok (Ok value) holds = holds
on_ok (Err fault) holds = tt

-- what holds of each fault holds of an Err
if_err : {A E : Type 0} {P : E → Type 0} (result : Result A E) → ((fault : E) → P fault) → IfErr result P
if_err (Ok value) holds = tt
if_err (Err fault) holds = holds fault

-- a prefix that is lost with no failed read, and then a call that reads and succeeds: whatever is answered, no read failed
pub reads_then_ok : {A B E F : Type 0} (read_fault : E) (failed : F) (old mid new : Option (List ℕ)) (faults_old faults_mid faults_new : ℕ) (value : A) (result : Result B F)
    → LosesPrefix old mid → faults_mid ≡ faults_old → ReadsSource read_fault (device mid new faults_mid faults_new) (Ok value) → ReadsSource failed (device old new faults_old faults_new) result
reads_then_ok read_fault failed old mid new faults_old faults_mid faults_new value result loses same reads = record {
  source = loses_then old mid new (reads.source.0) loses (reads.source.1);
  later = omega (arith, reads.later, same);
  none_failed = on_ok result (reads.none_failed ∙ same);
  else_none_failed = if_err result (λ fault. inr (reads.none_failed ∙ same));
}

-- the same of a call that reads and fails, whose fault is answered
pub reads_then_err : {A B E : Type 0} (read_fault : E) (old mid new : Option (List ℕ)) (faults_old faults_mid faults_new : ℕ) (fault : E)
    → LosesPrefix old mid → faults_mid ≡ faults_old → ReadsSource {A = A} read_fault (device mid new faults_mid faults_new) (Err fault) → ReadsSource {A = B} read_fault (device old new faults_old faults_new) (Err fault)
reads_then_err read_fault old mid new faults_old faults_mid faults_new fault loses same reads = record {
  source = loses_then old mid new (reads.source.0) loses (reads.source.1);
  later = omega (arith, reads.later, same);
  none_failed = tt;
  else_none_failed = subst (λ n. (fault ≡ read_fault) ⊎ (faults_new ≡ n)) same reads.else_none_failed;
}
