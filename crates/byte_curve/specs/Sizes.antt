-- The size of the greatest object of a trace.
use Rattle.std.specs.Prelude.{ℕ, List, fold, max}
use Rattle.cache_model.specs.declared.objects.Object.{Object}

-- 0 if there are no requests
abbrev pub greatest_size : List Object → ℕ
greatest_size trace = fold (λ most x. max most x.size) 0 trace
