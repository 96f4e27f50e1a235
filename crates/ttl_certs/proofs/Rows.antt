-- A small certificate with a ttl, by hand.
use Rattle.std.proofs.Common.{◌≡◌, ℕ, zero, suc, ◌≤◌, arith, lit≤, lit<, Bool, true, false, List, [], ◌∷◌, All, map, refl}
use Rattle.std.proofs.lemmas.List.Elements.{All-cons, All-nil}
use Rattle.std.proofs.lemmas.Nat.Gcd.{dvd_refl}
use Prim.Native.Nat.{◌∣◌}
use Rattle.cache_model.specs.declared.objects.Object.{Object}
use Rattle.cache_model.specs.declared.objects.Objective.TheVariants.{Object as Hits}
use Rattle.cache_model.specs.declared.intervals.Interval.{Interval}
use Rattle.cache_model.specs.declared.certificates.Header.{Header}
use Rattle.cache_model.specs.declared.certificates.Record.{Record}
use Rattle.cache_model.specs.Claim.{total_size, held_before, terms_of}
use Rattle.cache_model.specs.Certificates.{IsCertificate, IsRecordInRange, eligible_of, prices_of, unpriced}
use Rattle.cache_model.proofs.Keeps.{contents_of_keeps}
use Rattle.ttl_laws.specs.Runs.{bound_with_ttl}
use Rattle.ttl_certs.specs.Certificates.{IsValidWithTtl}

abbrev object : Object
object = record { volume = 0; id = 0; size = 1 }

-- one object, every two seconds
abbrev five : List Object
five = object ∷ object ∷ object ∷ object ∷ object ∷ []

abbrev evenly : List ℕ
evenly = 0 ∷ 2 ∷ 4 ∷ 6 ∷ 8 ∷ []

-- it is kept to the last, at no price: every other request is a hit, and no more can be
abbrev keeps : List Bool
keeps = true ∷ true ∷ true ∷ true ∷ false ∷ []

abbrev records : List Record
records = map unpriced keeps

abbrev header : Header
header = record { objective = Hits; capacity = 1; requests = 5; unit = 1; denominator = 1; exact = false; upper = 2; flow = 0; lower = 2; warmup = 0; version = 1 }

-- the bound of the same prices with other ttls
shorter_and_longer : map (bound_with_ttl (terms_of header []) 1 1 five evenly (prices_of records)) (1 ∷ 2 ∷ 4 ∷ 8 ∷ []) ≡ 0 ∷ 2 ∷ 3 ∷ 4 ∷ []
shorter_and_longer = refl

in_range : (keep : Bool) → IsRecordInRange (unpriced keep)
in_range keep = record { price = lit≤ tt; flow = lit≤ tt }

each_in_range : (bs : List Bool) → All IsRecordInRange (map unpriced bs)
each_in_range [] = All-nil IsRecordInRange
each_in_range (b ∷ bs) = All-cons IsRecordInRange (unpriced b) (map unpriced bs) (in_range b) (each_in_range bs)

abbrev HasNoFlow : Record → Type 0
HasNoFlow r = r.flow ≡ 0

no_flows : (bs : List Bool) → All HasNoFlow (map unpriced bs)
no_flows [] = All-nil HasNoFlow
no_flows (b ∷ bs) = All-cons HasNoFlow (unpriced b) (map unpriced bs) refl (no_flows bs)

certificate : IsCertificate header records
certificate = record {
  header = record { capacity = (lit≤ tt, lit≤ tt); requests = lit≤ tt; unit = (lit≤ tt, lit≤ tt); denominator = (lit≤ tt, lit≤ tt); upper = lit< tt; flow = lit< tt; lower = lit< tt; warmup = lit≤ tt; version = (lit≤ tt, lit≤ tt) };
  count = refl;
  each = each_in_range keeps;
}

loads : (t : ℕ) → t ≤ 5 → total_size (held_before five keeps t) ≤ 1
loads zero low = lit≤ tt
loads (suc zero) low = lit≤ tt
loads (suc (suc zero)) low = lit≤ tt
loads (suc (suc (suc zero))) low = lit≤ tt
loads (suc (suc (suc (suc zero)))) low = lit≤ tt
loads (suc (suc (suc (suc (suc zero))))) low = lit≤ tt
loads (suc (suc (suc (suc (suc (suc t)))))) low = absurd (omega arith)

-- each of the four intervals has size 1
abbrev interval : ℕ → ℕ → Interval
interval a b = record { start = a; end = b; size = 1; gain = 1 }

abbrev IsWhole : Interval → Type 0
IsWhole i = 1 ∣ i.size

whole : All IsWhole (eligible_of five [] header)
whole =
    All-cons IsWhole (interval 0 1) (interval 1 2 ∷ interval 2 3 ∷ interval 3 4 ∷ []) (dvd_refl 1)
    (All-cons IsWhole (interval 1 2) (interval 2 3 ∷ interval 3 4 ∷ []) (dvd_refl 1)
    (All-cons IsWhole (interval 2 3) (interval 3 4 ∷ []) (dvd_refl 1)
    (All-cons IsWhole (interval 3 4) [] (dvd_refl 1) (All-nil IsWhole))))

five_valid : IsValidWithTtl five [] evenly 2 header records
five_valid = record {
  certificate = certificate;
  requests = refl;
  sum_limit = lit≤ tt;
  last_price = refl;
  unit = whole;
  keeps = contents_of_keeps five 1 keeps loads;
  lower = refl;
  no_flows = no_flows keeps;
  flow = refl;
  upper = refl;
  whole_costs = λ exact. absurd (cc);
  exact_values = λ exact. absurd (cc);
}
