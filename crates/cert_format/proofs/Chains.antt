-- Lines that are read one after another.
use Rattle.std.proofs.Common.{◌⊎◌, ◌≡◌, ℕ, zero, suc, ◌+◌, ◌-◌, ◌≤◌, ◌∙◌, sym, refl, ap, subst, List, [], ◌∷◌, ◌++◌, append_assoc, length, arith, Some, None, Option, Ok, Err, Result, IfSome, IfOk, IfErr, inl, inr, length-drop}
use Rattle.std.specs.Option.{option_or}
use Rattle.bound_io.specs.Causes.{HasNewFault}
use Rattle.bound_io.specs.Devices.{Device, device}
use Rattle.bound_io.specs.Lines.{text_len, after_line}
use Rattle.bound_io.specs.Positions.{Position}
use Rattle.bound_io.specs.Reading.{LosesPrefix}
use Rattle.cert_format.specs.declared.fault.CertFault.{CertFault}
use Rattle.cert_format.specs.declared.fault.CertFault.TheVariants.{BadText, Truncated, Trailing, ReadFault}
use Rattle.cert_format.specs.Grammar.{Slot, end_slots}
use Rattle.cert_format.specs.Readings.{first_fault, lines_fault, after_lines, bytes_through, end_fault, trailing}
use Rattle.cert_format.specs.Lines.{known, IsPast, IsTaken, Passes, IsStopped, IsWithin, Reads}
use Rattle.cert_format.proofs.Headers.{after_lines-suc, after_lines-zero}
use Rattle.cert_format.proofs.Taken.{at_some, if_known, after_lines-one, same_taken}

-- some lines after others
pub after_lines-add : (j k : ℕ) (bytes : List ℕ) → after_lines (j + k) bytes ≡ after_lines k (after_lines j bytes)
unfolding after_lines
after_lines-add zero k bytes = let same : zero + k ≡ k = omega arith in ap (λ n. after_lines n bytes) same
after_lines-add (suc j) k bytes = let same : suc j + k ≡ suc (j + k) = omega arith in ap (λ n. after_lines n bytes) same ∙ after_lines-add j k (after_line bytes)

pub length-after_lines : (k : ℕ) (bytes : List ℕ) → length (after_lines k bytes) ≤ length bytes
unfolding after_lines
length-after_lines zero bytes = omega arith
length-after_lines (suc k) bytes = omega (arith, length-after_lines k (after_line bytes), length-drop (text_len bytes + 1) bytes)

-- the bytes of some lines after others
pub bytes_through-add : (j k : ℕ) (bytes : List ℕ) → bytes_through (j + k) bytes ≡ bytes_through j bytes + bytes_through k (after_lines j bytes)
bytes_through-add j k bytes = omega (arith, ap length (after_lines-add j k bytes), length-after_lines j bytes, length-after_lines k (after_lines j bytes))

-- what was lost at two times
pub loses_both : (a b d : Option (List ℕ)) → LosesPrefix a b → LosesPrefix b d → LosesPrefix a d
loses_both None b d one other = ([], tt)
loses_both (Some xs) None d one other = absurd one.1
loses_both (Some xs) (Some ys) None one other = absurd other.1
loses_both (Some xs) (Some ys) (Some zs) one other =
    let first : xs ≡ one.0 ++ ys = one.1 in
    let second : ys ≡ other.0 ++ zs = other.1 in
    (one.0 ++ other.0, first ∙ (ap (λ r. one.0 ++ r) second ∙ sym (append_assoc one.0 other.0 zs)))

-- what was taken at two times
pub taken_both : (first second third : Position) (a b d : Option (List ℕ)) → LosesPrefix a b → IsTaken first second a b → IsTaken second third b d → IsTaken first third a d
taken_both first second third None b d loses one other = tt
taken_both first second third (Some xs) None d loses one other = absurd loses.1
taken_both first second third (Some xs) (Some ys) None loses one other = tt
taken_both first second third (Some xs) (Some ys) (Some zs) loses one other = omega (arith, one, other)

keeps_prefix : (a : Option (List ℕ)) → LosesPrefix a a
keeps_prefix None = ([], tt)
keeps_prefix (Some xs) = ([], refl)

-- this number of lines was read, and this holds of the bytes
pub record HasRead (count : ℕ) (P : List ℕ → Type 0) (old now : Position) (source : Device) : Type 0 where
  pub limit : now.limit ≡ old.limit
  pub given : now.line ≡ old.line + count
  pub no_fault : now.fault ≡ None
  pub stands : IfSome (known old source.before) (λ bytes. P bytes × (known now source.after ≡ Some (after_lines count bytes)))
  pub past : IfSome (known old source.before) (IsPast old now)
  pub taken : IsTaken old now source.before source.after
  pub loses : LosesPrefix source.before source.after
  pub none_failed : source.faults_after ≡ source.faults_before

abbrev pub Nothing : List ℕ → Type 0
Nothing bytes = Unit {0}

pub start : (at : Position) (left : Option (List ℕ)) (faults : ℕ) → at.fault ≡ None → HasRead 0 Nothing at at (device left left faults faults)
start at left faults none = record {
  limit = refl;
  given = omega arith;
  no_fault = none;
  stands = if_known (known at left) _ (λ bytes e. (tt, e ∙ ap (λ b. Some b) (sym (after_lines-zero bytes))));
  past = if_known (known at left) _ (λ bytes e. record { further = omega arith; consumed = omega (arith, ap (λ n. length (after_lines n bytes)) (sub_same at.line), ap length (after_lines-zero bytes)) });
  taken = same_taken at left;
  loses = keeps_prefix left;
  none_failed = refl;
}
  where
    sub_same : (n : ℕ) → n - n ≡ 0
    sub_same n = omega arith

-- past some lines, and then past others
pub past_both : (first second third : Position) (bytes : List ℕ) (k : ℕ) → second.line ≡ first.line + k → IsPast first second bytes → IsPast second third (after_lines k bytes) → IsPast first third bytes
past_both first second third bytes k line one other =
    let here : bytes_through (second.line - first.line) bytes ≡ bytes_through k bytes = ap (λ n. bytes_through n bytes) (omega (arith, line)) in
    let both : bytes_through (third.line - first.line) bytes ≡ bytes_through k bytes + bytes_through (third.line - second.line) (after_lines k bytes)
    = ap (λ n. bytes_through n bytes) (omega (arith, line, other.further)) ∙ bytes_through-add k (third.line - second.line) bytes in
    record { further = omega (arith, one.further, other.further); consumed = omega (arith, one.consumed, other.consumed, here, both) }

new_fault_later : (first second third : ℕ) → first ≤ second → HasNewFault second third → HasNewFault first third
new_fault_later first second third later (inl more) = inl (omega (arith, later, more))
new_fault_later first second third later (inr last) = inr last

-- some lines more are read
module _ {A : Type 0} (count : ℕ) (P : List ℕ → Type 0) (fault_of : ℕ → List ℕ → Option CertFault) (more : ℕ) (value : List ℕ → A) (old now new : Position) (a b d : Option (List ℕ)) (x y z : ℕ) where
  abbrev Then : A → List ℕ → Type 0
  Then v bytes = P bytes × (fault_of (old.line + count + 1) (after_lines count bytes) ≡ None) × (v ≡ value (after_lines count bytes))

  pub then_more : (v : A) (r : Result A CertFault) → r ≡ Ok v → HasRead count P old now (device a b x y) → Reads (fault_of (now.line + 1)) more value now new (device b d y z) r → HasRead (count + more) (Then v) old new (device a d x z)
  then_more v r is done reads =
      let given = at_ok (λ _. (new.line ≡ now.line + more) × (new.fault ≡ None)) reads.given in
      let passes = at_ok (λ _. IfSome (known now b) (λ bytes. Passes (fault_of (now.line + 1)) more bytes (known new d))) reads.passes in
      let value_is = at_ok (λ w. IfSome (known now b) (λ bytes. w ≡ value bytes)) reads.value_is in
      record {
        limit = reads.limit ∙ done.limit;
        given = omega (arith, given.0, done.given);
        no_fault = given.1;
        stands = if_known (known old a) _ (λ bytes e.
            let so_far = at_some (known old a) bytes _ e done.stands in
            let pass = at_some (known now b) (after_lines count bytes) _ so_far.1 passes in (
              (so_far.0, ap (λ n. fault_of n (after_lines count bytes)) (omega (arith, done.given)) ∙ pass.none, at_some (known now b) (after_lines count bytes) _ so_far.1 value_is),
              pass.rest ∙ ap (λ r. Some r) (sym (after_lines-add count more bytes)),
            ));
        past = if_known (known old a) _ (λ bytes e.
            let so_far = at_some (known old a) bytes _ e done.stands in
            past_both old now new bytes count done.given (at_some (known old a) bytes _ e done.past) (at_some (known now b) (after_lines count bytes) _ so_far.1 reads.past));
        taken = taken_both old now new a b d done.loses done.taken reads.taken;
        loses = loses_both a b d done.loses reads.reads.source;
        none_failed = at_ok (λ _. z ≡ y) reads.reads.none_failed ∙ done.none_failed;
      }
    where
      at_ok : (Q : A → Type 0) → IfOk r Q → Q v
      at_ok Q h = subst (λ s. IfOk s Q) is h

  -- the first of them that isn't read ends the reading
  pub then_stop : {B : Type 0} (whole : List ℕ → Option CertFault) (total : ℕ) (value_of : List ℕ → B) (fault : CertFault) (r : Result A CertFault) → r ≡ Err fault → HasRead count P old now (device a b x y) → Reads (fault_of (now.line + 1)) more value now new (device b d y z) r
      → ((bytes : List ℕ) → P bytes → (g : CertFault) → fault_of (old.line + count + 1) (after_lines count bytes) ≡ Some g → whole bytes ≡ Some g)
      → Reads whole total value_of old new (device a d x z) (Err fault)
  then_stop whole total value_of fault r is done reads first = record {
    limit = reads.limit ∙ done.limit;
    held = reads.held;
    given = tt;
    passes = tt;
    value_is = tt;
    stopped = stopped fault (subst (λ s. IfErr s (IsStopped (fault_of (now.line + 1)) (known now b) (device b d y z))) is reads.stopped);
    within = subst (λ s. IfErr s (IsWithin new.line)) is reads.within;
    past = if_known (known old a) _ (λ bytes e.
        let so_far = at_some (known old a) bytes _ e done.stands in
        past_both old now new bytes count done.given (at_some (known old a) bytes _ e done.past) (at_some (known now b) (after_lines count bytes) _ so_far.1 reads.past));
    taken = taken_both old now new a b d done.loses done.taken reads.taken;
    reads = record { source = loses_both a b d done.loses reads.reads.source; later = omega (arith, done.none_failed, reads.reads.later); none_failed = tt; else_none_failed = calm (subst (λ s. IfErr s (λ f. (f ≡ ReadFault) ⊎ (z ≡ y))) is reads.reads.else_none_failed) };
  }
    where
      calm : (fault ≡ ReadFault) ⊎ (z ≡ y) → (fault ≡ ReadFault) ⊎ (z ≡ x)
      calm (inl failed) = inl failed
      calm (inr same) = inr (same ∙ done.none_failed)

      has : (g : CertFault) → IfSome (known now b) (λ bytes. fault_of (now.line + 1) bytes ≡ Some g) → IfSome (known old a) (λ bytes. whole bytes ≡ Some g)
      has g h = if_known (known old a) _ (λ bytes e.
          let so_far = at_some (known old a) bytes _ e done.stands in
          let same : now.line + 1 ≡ old.line + count + 1 = omega (arith, done.given) in
          first bytes so_far.0 g (ap (λ n. fault_of n (after_lines count bytes)) (sym same) ∙ at_some (known now b) (after_lines count bytes) _ so_far.1 h))

      stopped : (f : CertFault) → IsStopped (fault_of (now.line + 1)) (known now b) (device b d y z) f → IsStopped whole (known old a) (device a d x z) f
      stopped ReadFault why = new_fault_later x y z (omega (arith, done.none_failed)) why
      stopped (BadText n kind) why = has (BadText n kind) why
      stopped (Truncated n) why = has (Truncated n) why
      stopped (Trailing n) why = has (Trailing n) why

-- all of them are read
pub all_done : {B : Type 0} (count : ℕ) (P : List ℕ → Type 0) (old now : Position) (a b : Option (List ℕ)) (x y : ℕ) (whole : List ℕ → Option CertFault) (value_of : List ℕ → B) (v : B) → HasRead count P old now (device a b x y) → length now.held ≤ 65536
    → ((bytes : List ℕ) → P bytes → whole bytes ≡ None) → ((bytes : List ℕ) → P bytes → v ≡ value_of bytes) → Reads whole count value_of old now (device a b x y) (Ok v)
all_done count P old now a b x y whole value_of v done held none is = record {
  limit = done.limit;
  held = held;
  given = (done.given, done.no_fault);
  passes = if_known (known old a) _ (λ bytes e. let so_far = at_some (known old a) bytes _ e done.stands in record { none = none bytes so_far.0; rest = so_far.1 });
  value_is = if_known (known old a) _ (λ bytes e. is bytes (at_some (known old a) bytes _ e done.stands).0);
  stopped = tt;
  within = tt;
  past = done.past;
  taken = done.taken;
  reads = record { source = done.loses; later = omega (arith, done.none_failed); none_failed = done.none_failed; else_none_failed = tt };
}

-- the last of several readings
pub then_last : (count : ℕ) (P : List ℕ → Type 0) (fault_of : ℕ → List ℕ → Option CertFault) (old now new : Position) (a b d : Option (List ℕ)) (x y z : ℕ) (whole : List ℕ → Option CertFault) (r : Result (Unit {0}) CertFault)
    → HasRead count P old now (device a b x y) → Reads (fault_of (now.line + 1)) 0 (λ bytes. tt) now new (device b d y z) r
    → ((bytes : List ℕ) → P bytes → whole bytes ≡ fault_of (old.line + count + 1) (after_lines count bytes)) → Reads whole count (λ bytes. tt) old new (device a d x z) r
then_last count P fault_of old now new a b d x y z whole (Err fault) done reads same =
    then_stop count P fault_of 0 (λ bytes. tt) old now new a b d x y z whole count (λ bytes. tt) fault (Err fault) refl done reads (λ bytes p g is. same bytes p ∙ is)
then_last count P fault_of old now new a b d x y z whole (Ok tt) done reads same =
    let all = then_more count P fault_of 0 (λ bytes. tt) old now new a b d x y z tt (Ok tt) refl done reads in
    let none : count + 0 ≡ count = omega arith in
    subst (λ n. Reads whole n (λ bytes. tt) old new (device a d x z) (Ok tt)) none
    (all_done (count + 0) _ old new a d x z whole (λ bytes. tt) tt all reads.held (λ bytes p. same bytes p.0 ∙ p.1) (λ bytes p. refl))

-- none of these lines has a fault, after the first k
abbrev pub NoneFaulty : ℕ → ℕ → List (List Slot) → List ℕ → Type 0
NoneFaulty n k [] bytes = Unit {0}
NoneFaulty n k (slots ∷ lines) bytes = (first_fault (n + k + 1) slots (after_lines k bytes) ≡ None) × NoneFaulty n (suc k) lines bytes

next_none : (n k : ℕ) (slots : List Slot) (more : List (List Slot)) (bytes : List ℕ) → first_fault (n + k + 1) slots (after_lines k bytes) ≡ None
    → lines_fault (n + k + 1) (slots ∷ more) (after_lines k bytes) ≡ lines_fault (n + suc k + 1) more (after_lines (suc k) bytes)
next_none n k slots more bytes none =
    let same : n + k + 1 + 1 ≡ n + suc k + 1 = omega arith in
    ap (λ o. option_or o (lines_fault (n + k + 1 + 1) more (after_line (after_lines k bytes)))) none
    ∙ (ap (lines_fault (n + k + 1 + 1) more) (sym (after_lines-suc k bytes)) ∙ ap (λ m. lines_fault m more (after_lines (suc k) bytes)) same)

stop_after : (n k : ℕ) (prefix : List (List Slot)) (slots : List Slot) (more : List (List Slot)) (bytes : List ℕ) (g : CertFault) → NoneFaulty n k prefix bytes
    → first_fault (n + (k + length prefix) + 1) slots (after_lines (k + length prefix) bytes) ≡ Some g → lines_fault (n + k + 1) (prefix ++ slots ∷ more) (after_lines k bytes) ≡ Some g
stop_after n k [] slots more bytes g none is =
    let same : k + 0 ≡ k = omega arith in
    let here : first_fault (n + k + 1) slots (after_lines k bytes) ≡ Some g = ap (λ m. first_fault (n + m + 1) slots (after_lines m bytes)) (sym same) ∙ is in
    ap (λ o. option_or o (lines_fault (n + k + 1 + 1) more (after_line (after_lines k bytes)))) here
stop_after n k (s ∷ prefix) slots more bytes g none is =
    let same : k + suc (length prefix) ≡ suc k + length prefix = omega arith in
    next_none n k s (prefix ++ slots ∷ more) bytes none.0 ∙ stop_after n (suc k) prefix slots more bytes g none.1 (ap (λ m. first_fault (n + m + 1) slots (after_lines m bytes)) (sym same) ∙ is)

-- the first fault of some lines
pub lines_stop : (n : ℕ) (prefix : List (List Slot)) (slots : List Slot) (more : List (List Slot)) (bytes : List ℕ) (g : CertFault) → NoneFaulty n 0 prefix bytes
    → first_fault (n + length prefix + 1) slots (after_lines (length prefix) bytes) ≡ Some g → lines_fault (n + 1) (prefix ++ slots ∷ more) bytes ≡ Some g
lines_stop n prefix slots more bytes g none is =
    let same : 0 + length prefix ≡ length prefix = omega arith in
    let zero' : n + 1 ≡ n + 0 + 1 = omega arith in
    ap (λ m. lines_fault m (prefix ++ slots ∷ more) bytes) zero' ∙ (ap (lines_fault (n + 0 + 1) (prefix ++ slots ∷ more)) (sym (after_lines-zero bytes))
    ∙ stop_after n 0 prefix slots more bytes g none (ap (λ m. first_fault (n + m + 1) slots (after_lines m bytes)) same ∙ is))

none_after : (n k : ℕ) (lines : List (List Slot)) (bytes : List ℕ) → NoneFaulty n k lines bytes → lines_fault (n + k + 1) lines (after_lines k bytes) ≡ None
none_after n k [] bytes none = refl
none_after n k (slots ∷ lines) bytes none = next_none n k slots lines bytes none.0 ∙ none_after n (suc k) lines bytes none.1

-- no fault of some lines
pub lines_none : (n : ℕ) (lines : List (List Slot)) (bytes : List ℕ) → NoneFaulty n 0 lines bytes → lines_fault (n + 1) lines bytes ≡ None
lines_none n lines bytes none =
    let zero' : n + 1 ≡ n + 0 + 1 = omega arith in
    ap (λ m. lines_fault m lines bytes) zero' ∙ (ap (lines_fault (n + 0 + 1) lines) (sym (after_lines-zero bytes)) ∙ none_after n 0 lines bytes none)

-- the fault of the end, if its line has none
pub end_after : (n : ℕ) (bytes : List ℕ) → first_fault (n + 0 + 1) end_slots (after_lines 0 bytes) ≡ None → end_fault (n + 1) bytes ≡ trailing (n + 1 + 1) (after_lines 1 bytes)
end_after n bytes none =
    let zero' : n + 0 + 1 ≡ n + 1 = omega arith in
    let here : first_fault (n + 1) end_slots bytes ≡ None = ap (λ m. first_fault m end_slots bytes) (sym zero') ∙ (ap (first_fault (n + 0 + 1) end_slots) (sym (after_lines-zero bytes)) ∙ none) in
    ap (λ o. option_or o (trailing (n + 1 + 1) (after_line bytes))) here ∙ ap (trailing (n + 1 + 1)) (sym (after_lines-one bytes))
