-- The kinds of rules are not decided by the text of a certificate alone.
use Rattle.std.proofs.Common.{◌≡◌, ℕ, subst, Bool, true, false, List, [], ◌∷◌, Option, Some, None, IfSome}
use Rattle.std.specs.Option.{option_map}
use Rattle.cache_model.specs.declared.objects.Object.{Object}
use Rattle.cache_model.specs.declared.certificates.Header.{Header}
use Rattle.cache_model.specs.declared.certificates.Record.{Record}
use Rattle.cache_model.specs.Claim.{request_at}
use Rattle.cert_checker.specs.declared.invalid.InvalidKind.{InvalidKind}
use Rattle.cert_checker.specs.declared.invalid.InvalidKind.TheVariants.{SumLimit, LastPrice, UnitNotDivisor, NotDivisible, Overfull, FlowAboveWeight, FlowOverfull, Unused, UpperDiffers, FlowDiffers, LowerDiffers, ExactGap}
use Rattle.cert_checker.specs.declared.rules.Figures.{Figures}
use Rattle.cert_checker.specs.declared.verdict.Counted.{Counted}
use Rattle.cert_checker.specs.Checks.{IsOfText}
use Rattle.cert_checker.specs.Rules.{counted_of, end_fault, end_rules, figures_at, first_some, first_unused, found, record_at, record_fault, record_rules}

module _ (before : Option (List ℕ)) (line : ℕ) where
  -- what is found is of the text if its kind is
  of_found : (test : Bool) (kind : InvalidKind) → IsOfText before line kind → IfSome (found test kind) (IsOfText before line)
  of_found true kind is = is
  of_found false kind is = tt

  of_unused : (unused : Option ℕ) → IfSome (option_map Unused unused) (IsOfText before line)
  of_unused None = tt
  of_unused (Some number) = tt

  -- each kind that is found is of the text if its kind is
  abbrev Each : List (Option InvalidKind) → Type 0
  Each [] = Unit {0}
  Each (kind ∷ kinds) = IfSome kind (IsOfText before line) × Each kinds

  of_first : (kinds : List (Option InvalidKind)) → Each kinds → IfSome (first_some kinds) (IsOfText before line)
  of_first [] each = tt
  of_first (None ∷ kinds) each = of_first kinds each.1
  of_first (Some kind ∷ kinds) each = each.0

  -- the kind of a rule of a record
  of_rules : (h : Header) (x : Object) (r : Record) (now : Figures) → IfSome (first_some (record_rules h x r now)) (IsOfText before line)
  of_rules h x r now =
      of_first (record_rules h x r now) (of_found _ SumLimit tt, (of_found _ (LastPrice _) tt, (of_found _ (UnitNotDivisor _ _) tt, (of_found _ (NotDivisible _) tt, (of_found _ (Overfull _ _) tt, (of_found _ (FlowAboveWeight _ _) tt, (of_found _ (FlowOverfull _ _) tt, (of_unused now.unused, tt))))))))

  pub of_record : (h : Header) (fills : List Bool) (trace : List Object) (records : List Record) (t : ℕ) (kind : InvalidKind) → record_fault h fills trace records t ≡ Some kind → IsOfText before line kind
  of_record h fills trace records t kind is = subst (λ k. IfSome k (IsOfText before line)) is (of_rules h (request_at trace t) (record_at records t) (figures_at h fills trace records t))

  -- the kind of a rule of the end
  of_end_rules : (h : Header) (unused : Option ℕ) (counted : Counted) → IfSome (first_some (end_rules h unused counted)) (IsOfText before line)
  of_end_rules h unused counted =
      of_first (end_rules h unused counted) (of_unused unused, (of_found _ (UpperDiffers _ _) tt, (of_found _ (FlowDiffers _ _) tt, (of_found _ (LowerDiffers _ _) tt, (of_found _ (ExactGap _ _) tt, tt)))))

  pub of_end : (h : Header) (fills : List Bool) (trace : List Object) (records : List Record) (kind : InvalidKind) → end_fault h fills trace records ≡ Some kind → IsOfText before line kind
  of_end h fills trace records kind is = subst (λ k. IfSome k (IsOfText before line)) is (of_end_rules h (first_unused trace records) (counted_of h fills trace records))
