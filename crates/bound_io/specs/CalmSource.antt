-- What a source in memory that never fails holds.
use Rattle.std.specs.Prelude.{ℕ, List, drop}
use Rattle.bound_io.specs.declared.calm_source.CalmSource.{CalmSource}

-- the bytes that are still to come
abbrev pub bytes_left : CalmSource → List ℕ
bytes_left source = drop source.at source.bytes.items
