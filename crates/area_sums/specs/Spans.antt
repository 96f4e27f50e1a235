-- Spans: requests that can be hits, as sizes and lengths, and what they count for.
use Rattle.std.specs.Prelude.{ℕ, ◌+◌, ◌-◌, ◌*◌, nat_le, List, filter, sum_by}
use Rattle.cache_model.specs.declared.objects.Objective.{Objective}
use Rattle.cache_model.specs.declared.objects.Objective.TheVariants.{Object as Hits, Bytes}

-- a request that can be a hit: the size of its object, and for how many steps a hit has held it
pub record Span : Type 0 where
  pub size : ℕ
  pub length : ℕ

-- the size times the steps
abbrev pub area_of : Span → ℕ
area_of s = s.size * s.length

-- what a hit earns
abbrev pub gain_of : Objective → Span → ℕ
gain_of Hits s = 1
gain_of Bytes s = s.size

-- the area for each unit of the gain
abbrev pub cost_of : Objective → Span → ℕ
cost_of Hits s = s.size * s.length
cost_of Bytes s = s.length

-- the spans of objects that a capacity can hold
abbrev pub within : ℕ → List Span → List Span
within capacity spans = filter (λ s. nat_le s.size capacity) spans

-- the area of the cache, and for each span within the capacity what its cost lacks to the edge, times its gain
abbrev pub edge_total : Objective → ℕ → ℕ → List Span → ℕ → ℕ
edge_total objective capacity steps spans edge =
    capacity * steps + sum_by (λ s. gain_of objective s * (edge - cost_of objective s)) (within capacity spans)

-- what all spans within the capacity earn: the bound without a price
abbrev pub gain_total : Objective → ℕ → List Span → ℕ
gain_total objective capacity spans = sum_by (gain_of objective) (within capacity spans)
