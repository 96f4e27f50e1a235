-- The records of one price, computed.
use Rattle.std.proofs.Common.{◌≡◌, true, false, [], ◌∷◌, refl}
use Rattle.cache_model.specs.Certificates.{keeps_of, prices_of}
use Rattle.ttl_bounds.specs.Records.{records_of}

-- each step but the last has the price
three_prices : prices_of (records_of 7 (true ∷ false ∷ true ∷ [])) ≡ 7 ∷ 7 ∷ 0 ∷ []
three_prices = refl

three_keeps : keeps_of (records_of 7 (true ∷ false ∷ true ∷ [])) ≡ true ∷ false ∷ true ∷ []
three_keeps = refl

-- so a single step has none
one_price : prices_of (records_of 7 (true ∷ [])) ≡ 0 ∷ []
one_price = refl
