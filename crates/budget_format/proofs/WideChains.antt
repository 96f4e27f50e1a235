-- Lines that are read one after another, of which one may be that of a budget.
use Rattle.std.proofs.Common.{◌⊎◌, ◌≡◌, ℕ, ◌+◌, ◌*◌, ◌≤◌, ◌∙◌, sym, ap, subst, List, arith, Some, None, Option, Ok, Err, Result, IfSome, IfOk, IfErr, inl, inr}
use Rattle.bound_io.specs.Causes.{HasNewFault}
use Rattle.bound_io.specs.Devices.{device}
use Rattle.bound_io.specs.Positions.{Position}
use Rattle.cert_format.specs.declared.fault.CertFault.{CertFault}
use Rattle.cert_format.specs.declared.fault.CertFault.TheVariants.{BadText, Truncated, Trailing, ReadFault}
use Rattle.cert_format.specs.Readings.{after_lines}
use Rattle.cert_format.specs.Lines.{known, Passes, IsStopped, IsWithin, Reads}
use Rattle.cert_format.proofs.Taken.{at_some, if_known}
use Rattle.cert_format.proofs.Chains.{HasRead, after_lines-add, loses_both, past_both, taken_both}
use Rattle.budget_format.specs.Parts.{ReadsWide, roomy}
use Rattle.budget_format.proofs.Wide.{is_roomy}

new_fault_later : (first second third : ℕ) → first ≤ second → HasNewFault second third → HasNewFault first third
new_fault_later first second third later (inl more) = inl (omega (arith, later, more))
new_fault_later first second third later (inr last) = inr last

-- one line more is read
module _ {A : Type 0} (count : ℕ) (P : List ℕ → Type 0) (fault_of : ℕ → List ℕ → Option CertFault) (value : List ℕ → A) (old now new : Position) (a b d : Option (List ℕ)) (x y z : ℕ) (room : (bytes : List ℕ) → known old a ≡ Some bytes → P bytes → now.consumed + 16 ≤ 64 * now.line) where
  abbrev After : A → List ℕ → Type 0
  After v bytes = P bytes × (fault_of (old.line + count + 1) (after_lines count bytes) ≡ None) × (v ≡ value (after_lines count bytes))

  -- the bytes that are known are those that there is room for
  here : (bytes : List ℕ) → known old a ≡ Some bytes → P bytes × (known now b ≡ Some (after_lines count bytes)) → known now (roomy now b) ≡ Some (after_lines count bytes)
  here bytes e so_far = ap (known now) (is_roomy now b (room bytes e so_far.0)) ∙ so_far.1

  pub then_wide : (v : A) (r : Result A CertFault) → r ≡ Ok v → HasRead count P old now (device a b x y) → ReadsWide fault_of value now new (device b d y z) r → HasRead (count + 1) (After v) old new (device a d x z)
  then_wide v r is done wide =
      let reads = wide.reads in
      let given = at_ok (λ _. (new.line ≡ now.line + 1) × (new.fault ≡ None)) reads.given in
      let passes = at_ok (λ _. IfSome (known now (roomy now b)) (λ bytes. Passes (fault_of (now.line + 1)) 1 bytes (known new d))) reads.passes in
      let value_is = at_ok (λ w. IfSome (known now (roomy now b)) (λ bytes. w ≡ value bytes)) reads.value_is in
      record {
        limit = reads.limit ∙ done.limit;
        given = omega (arith, given.0, done.given);
        no_fault = given.1;
        stands = if_known (known old a) _ (λ bytes e.
            let so_far = at_some (known old a) bytes _ e done.stands in
            let is_here = here bytes e so_far in
            let pass = at_some (known now (roomy now b)) (after_lines count bytes) _ is_here passes in (
              (so_far.0, ap (λ n. fault_of n (after_lines count bytes)) (omega (arith, done.given)) ∙ pass.none, at_some (known now (roomy now b)) (after_lines count bytes) _ is_here value_is),
              pass.rest ∙ ap (λ r. Some r) (sym (after_lines-add count 1 bytes)),
            ));
        past = if_known (known old a) _ (λ bytes e.
            let so_far = at_some (known old a) bytes _ e done.stands in
            past_both old now new bytes count done.given (at_some (known old a) bytes _ e done.past) (at_some (known now (roomy now b)) (after_lines count bytes) _ (here bytes e so_far) reads.past));
        taken = taken_both old now new a b d done.loses done.taken wide.taken;
        loses = loses_both a b d done.loses wide.loses;
        none_failed = at_ok (λ _. z ≡ y) reads.reads.none_failed ∙ done.none_failed;
      }
    where
      at_ok : (Q : A → Type 0) → IfOk r Q → Q v
      at_ok Q h = subst (λ s. IfOk s Q) is h

  -- it isn't read, and ends the reading
  pub wide_stops : {B : Type 0} (whole : List ℕ → Option CertFault) (total : ℕ) (value_of : List ℕ → B) (fault : CertFault) (r : Result A CertFault) → r ≡ Err fault → HasRead count P old now (device a b x y) → ReadsWide fault_of value now new (device b d y z) r
      → ((bytes : List ℕ) → P bytes → (g : CertFault) → fault_of (old.line + count + 1) (after_lines count bytes) ≡ Some g → whole bytes ≡ Some g)
      → Reads whole total value_of old new (device a d x z) (Err fault)
  wide_stops whole total value_of fault r is done wide first = record {
    limit = reads.limit ∙ done.limit;
    held = reads.held;
    given = tt;
    passes = tt;
    value_is = tt;
    stopped = stopped fault (subst (λ s. IfErr s (IsStopped (fault_of (now.line + 1)) (known now (roomy now b)) (device (roomy now b) d y z))) is reads.stopped);
    within = subst (λ s. IfErr s (IsWithin new.line)) is reads.within;
    past = if_known (known old a) _ (λ bytes e.
        let so_far = at_some (known old a) bytes _ e done.stands in
        past_both old now new bytes count done.given (at_some (known old a) bytes _ e done.past) (at_some (known now (roomy now b)) (after_lines count bytes) _ (here bytes e so_far) reads.past));
    taken = taken_both old now new a b d done.loses done.taken wide.taken;
    reads = record { source = loses_both a b d done.loses wide.loses; later = omega (arith, done.none_failed, reads.reads.later); none_failed = tt; else_none_failed = calm (subst (λ s. IfErr s (λ f. (f ≡ ReadFault) ⊎ (z ≡ y))) is reads.reads.else_none_failed) };
  }
    where
      reads : Reads (fault_of (now.line + 1)) 1 value now new (device (roomy now b) d y z) r
      reads = wide.reads

      calm : (fault ≡ ReadFault) ⊎ (z ≡ y) → (fault ≡ ReadFault) ⊎ (z ≡ x)
      calm (inl failed) = inl failed
      calm (inr same) = inr (same ∙ done.none_failed)

      has : (g : CertFault) → IfSome (known now (roomy now b)) (λ bytes. fault_of (now.line + 1) bytes ≡ Some g) → IfSome (known old a) (λ bytes. whole bytes ≡ Some g)
      has g h = if_known (known old a) _ (λ bytes e.
          let so_far = at_some (known old a) bytes _ e done.stands in
          let same : now.line + 1 ≡ old.line + count + 1 = omega (arith, done.given) in
          first bytes so_far.0 g (ap (λ n. fault_of n (after_lines count bytes)) (sym same) ∙ at_some (known now (roomy now b)) (after_lines count bytes) _ (here bytes e so_far) h))

      stopped : (f : CertFault) → IsStopped (fault_of (now.line + 1)) (known now (roomy now b)) (device (roomy now b) d y z) f → IsStopped whole (known old a) (device a d x z) f
      stopped ReadFault why = new_fault_later x y z (omega (arith, done.none_failed)) why
      stopped (BadText n kind) why = has (BadText n kind) why
      stopped (Truncated n) why = has (Truncated n) why
      stopped (Trailing n) why = has (Trailing n) why
