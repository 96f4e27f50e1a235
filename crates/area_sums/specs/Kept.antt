-- What is kept of the spans, in pages.
use Rattle.std.specs.Prelude.{◌≡◌, ℕ, ◌+◌, ◌*◌, ◌^◌, ◌<◌, ◌≤◌, List, length}
use Rattle.area_sums.specs.declared.group.Group.{Group}
use Rattle.area_sums.specs.declared.pages.Pages.{Pages}
use Rattle.area_sums.specs.Groups.{AreSums, Sums, area_classes, length_classes, rows_of}
use Rattle.area_sums.specs.PageLayout.{page_size}
use Rattle.area_sums.specs.Pages.{group_in}

-- the sums in pages
abbrev pub sums_in : List ℕ → ℕ → Pages → Pages → Sums
sums_in capacities count hits bytes = record {
  capacities = capacities;
  count = count;
  hits = rows_of (length capacities) (group_in hits);
  bytes = rows_of (length capacities) (group_in bytes);
}

-- what is kept are sums within their ranges, in pages of the places of the capacities and of the classes of costs
pub record AreKept (capacities : List ℕ) (count : ℕ) (hits bytes : Pages) : Type 0 where
  pub sums : AreSums (sums_in capacities count hits bytes)
  pub hits_places : hits.places ≡ length capacities
  pub bytes_places : bytes.places ≡ length capacities
  pub areas : hits.rows * page_size ≤ area_classes
  pub lengths : bytes.rows * page_size ≤ length_classes

-- there is room for more in the group of a place and a class, if there is such a place
pub record HasRoomAt (pages : Pages) (place class : ℕ) (more : Group) : Type 0 where
  pub gain : place < pages.places → (group_in pages place class).gain + more.gain < 2 ^ 128
  pub area : place < pages.places → (group_in pages place class).area + more.area < 2 ^ 128
