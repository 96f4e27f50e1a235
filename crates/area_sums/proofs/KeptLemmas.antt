-- What is kept in pages, after one span more.
use Rattle.std.proofs.Common.{◌≡◌, ℕ, ◌+◌, ◌-◌, ◌*◌, ◌/◌, ◌%◌, ◌^◌, ◌<◌, ◌≤◌, refl, sym, ap, ◌∙◌, subst, cond, ◌&&◌, eqb, List, [], ◌∷◌, ◌++◌, length, arith}
use Rattle.std.proofs.lemmas.List.{get_or_past, length-append}
use Rattle.std.proofs.lemmas.List.Elements.{All-append, All-cons, All-nil}
use Rattle.cache_model.specs.declared.objects.Objective.{Objective}
use Rattle.cache_model.specs.declared.objects.Objective.TheVariants.{Object as Hits, Bytes}
use Rattle.area_sums.specs.declared.group.Group.{Group}
use Rattle.area_sums.specs.declared.pages.Pages.{Pages}
use Rattle.area_sums.specs.Spans.{Span, area_of}
use Rattle.area_sums.specs.Groups.{AreCapacities, AreGroupsOf, AreSums, AreSumsOf, IsInRange, area_classes, both, groups_of, length_classes, no_group, place_of, rows_of}
use Rattle.area_sums.specs.Pages.{HasMoreIn, HasSameGroups, KeepsRows, group_in}
use Rattle.area_sums.specs.Kept.{AreKept, HasRoomAt, sums_in}
use Rattle.area_sums.specs.declared.bound.EdgeBound.{EdgeBound}
use Rattle.area_sums.specs.Places.{AreLeastBefore, AreOfSpans}
use Rattle.area_sums.proofs.AddLemmas.{area-room, gain-room, groups-none, groups-of, groups-same}
use Rattle.area_sums.proofs.PageLemmas.{read-none, row-beyond}
use Rattle.area_sums.proofs.PlaceSums.{class_at}
use Rattle.area_sums.proofs.RowLemmas.{rows-read}
use Rattle.area_sums.proofs.ShortLemmas.{class_few, length_class_few}
use Rattle.area_sums.proofs.LeastLemmas.{product-le}

-- how many rows of pages the classes of areas and those of lengths have
abbrev area_pages : ℕ
area_pages = 2240

abbrev length_pages : ℕ
length_pages = 704

-- no group is of a class after the pages
pub none-after : (pages : Pages) (place class : ℕ) → pages.rows * 64 ≤ class → group_in pages place class ≡ no_group
none-after pages place class past =
    let spot : ℕ = class / 64 * pages.places + place in
    let late : length pages.numbers.items ≤ spot = omega (arith, pages.paged.each, row-beyond pages.rows pages.places (class / 64) place (omega arith)) in
    read-none pages.places pages.rows pages.numbers.items pages.groups.items pages.paged spot (class % 64) (get_or_past pages.numbers.items spot 0 late) (omega arith)

-- so the rows have the groups
pub rows-of_pages : (pages : Pages) (places : ℕ) → pages.rows * 64 ≤ area_classes → (place class : ℕ) → place < places
    → groups_of (rows_of places (group_in pages)) place class ≡ group_in pages place class
rows-of_pages pages places few = rows-read places (group_in pages) (λ place class past. none-after pages place class (omega arith))

-- rows of the same groups are the same
pub rows-same : (places : ℕ) (old new : Pages) → HasSameGroups old new → rows_of places (group_in new) ≡ rows_of places (group_in old)
rows-same places old new same = λ i. rows_of places (λ place class. same place class i)

-- the sums of no span
pub sums-none : (capacities : List ℕ) (hits bytes : Pages) → hits.rows ≡ 0 → bytes.rows ≡ 0
    → ((place class : ℕ) → group_in hits place class ≡ no_group) → ((place class : ℕ) → group_in bytes place class ≡ no_group)
    → AreSumsOf [] (sums_in capacities 0 hits bytes)
sums-none capacities hits bytes hits_rows bytes_rows no_hits no_bytes = record {
  count = refl;
  sizes = All-nil (λ (s : Span). 0 < s.size);
  hits = groups-none Hits capacities (groups_of (rows_of (length capacities) (group_in hits)))
      (λ place class low. rows-of_pages hits (length capacities) (omega arith) place class low ∙ no_hits place class);
  bytes = groups-none Bytes capacities (groups_of (rows_of (length capacities) (group_in bytes)))
      (λ place class low. rows-of_pages bytes (length capacities) (omega arith) place class low ∙ no_bytes place class);
}

pub kept-none : (capacities : List ℕ) (hits bytes : Pages) → AreCapacities capacities → hits.rows ≡ 0 → bytes.rows ≡ 0
    → hits.places ≡ length capacities → bytes.places ≡ length capacities
    → ((place class : ℕ) → group_in hits place class ≡ no_group) → ((place class : ℕ) → group_in bytes place class ≡ no_group)
    → AreKept capacities 0 hits bytes
kept-none capacities hits bytes ranges hits_rows bytes_rows hits_places bytes_places no_hits no_bytes = record {
  sums = record {
    capacities = ranges;
    count = omega arith;
    spans = [];
    ranges = All-nil IsInRange;
    are = sums-none capacities hits bytes hits_rows bytes_rows no_hits no_bytes;
  };
  hits_places = hits_places;
  bytes_places = bytes_places;
  areas = omega arith;
  lengths = omega arith;
}

module _ (capacities : List ℕ) (count : ℕ) (hits bytes : Pages) (h : AreKept capacities count hits bytes) where
  areas : hits.rows * 64 ≤ area_classes
  areas = h.areas

  lengths : bytes.rows * 64 ≤ area_classes
  lengths = omega (arith, h.lengths)

  few_spans : length h.sums.spans < 2 ^ 32
  few_spans = omega (arith, h.sums.count, h.sums.are.count)

  -- the groups in the pages are those of the spans
  pub hits-are : AreGroupsOf Hits capacities h.sums.spans (group_in hits)
  hits-are =
      groups-same Hits capacities h.sums.spans (groups_of (rows_of (length capacities) (group_in hits))) (group_in hits)
      (λ place class low. sym (rows-of_pages hits (length capacities) areas place class low)) h.sums.are.hits

  pub bytes-are : AreGroupsOf Bytes capacities h.sums.spans (group_in bytes)
  bytes-are =
      groups-same Bytes capacities h.sums.spans (groups_of (rows_of (length capacities) (group_in bytes))) (group_in bytes)
      (λ place class low. sym (rows-of_pages bytes (length capacities) lengths place class low)) h.sums.are.bytes

  module _ (s : Span) (range : IsInRange s) where
    small : area_of s < 2 ^ 80
    small = omega (arith, product-le s.size (2 ^ 48) s.length (2 ^ 32 - 1) range.size (omega (arith, range.length)))

    -- there is room for a span
    pub hits-room_at : HasRoomAt hits (place_of capacities s.size) (class_at Hits s) (record { gain = 1; area = area_of s })
    hits-room_at = record {
      gain = λ low. gain-room Hits capacities h.sums.spans (group_in hits) hits-are few_spans h.sums.ranges s range (place_of capacities s.size) (class_at Hits s) (omega (arith, low, h.hits_places));
      area = λ low. area-room Hits capacities h.sums.spans (group_in hits) hits-are few_spans h.sums.ranges s range (place_of capacities s.size) (class_at Hits s) (omega (arith, low, h.hits_places));
    }

    pub bytes-room_at : HasRoomAt bytes (place_of capacities s.size) (class_at Bytes s) (record { gain = s.size; area = area_of s })
    bytes-room_at = record {
      gain = λ low. gain-room Bytes capacities h.sums.spans (group_in bytes) bytes-are few_spans h.sums.ranges s range (place_of capacities s.size) (class_at Bytes s) (omega (arith, low, h.bytes_places));
      area = λ low. area-room Bytes capacities h.sums.spans (group_in bytes) bytes-are few_spans h.sums.ranges s range (place_of capacities s.size) (class_at Bytes s) (omega (arith, low, h.bytes_places));
    }

    module _ (new_hits new_bytes : Pages) (hits_rows : KeepsRows (class_at Hits s) hits new_hits) (bytes_rows : KeepsRows (class_at Bytes s) bytes new_bytes) where
      -- the pages are of the classes of costs
      new_areas : new_hits.rows * 64 ≤ area_classes
      new_areas = omega (arith, hits_rows.no_more area_pages (omega (arith, h.areas)) (omega (arith, class_few (area_of s) small)))

      new_lengths : new_bytes.rows * 64 ≤ length_classes
      new_lengths = omega (arith, bytes_rows.no_more length_pages (omega (arith, h.lengths)) (omega (arith, length_class_few s.length range.length)))

      -- a group with more, if it is that of the span
      abbrev more_at : Objective → ℕ → ℕ → Group → Group → Group
      more_at objective place class g more = cond (eqb (class_at objective s) class && eqb (place_of capacities s.size) place) (both g more) g

      -- the sums of spans, with the span
      module _ (more_hits : HasMoreIn (place_of capacities s.size) (class_at Hits s) (record { gain = 1; area = area_of s }) hits new_hits)
          (more_bytes : HasMoreIn (place_of capacities s.size) (class_at Bytes s) (record { gain = s.size; area = area_of s }) bytes new_bytes) where
        pub sums-more : (spans : List Span) → 0 < s.size → AreSumsOf spans (sums_in capacities count hits bytes)
            → AreSumsOf (spans ++ s ∷ []) (sums_in capacities (count + 1) new_hits new_bytes)
        sums-more spans some are = record {
          count = omega (arith, are.count, length-append spans (s ∷ []));
          sizes = All-append (λ (s : Span). 0 < s.size) spans (s ∷ []) are.sizes (All-cons (λ (s : Span). 0 < s.size) s [] some (All-nil (λ (s : Span). 0 < s.size)));
          hits = groups-of Hits capacities spans (groups_of (rows_of (length capacities) (group_in hits))) (groups_of (rows_of (length capacities) (group_in new_hits))) s
              (λ place class low.
              rows-of_pages new_hits (length capacities) new_areas place class low
              ∙ more_hits place class (omega (arith, low, h.hits_places))
              ∙ ap (λ g. more_at Hits place class g (record { gain = 1; area = area_of s })) (sym (rows-of_pages hits (length capacities) areas place class low)))
              are.hits;
          bytes = groups-of Bytes capacities spans (groups_of (rows_of (length capacities) (group_in bytes))) (groups_of (rows_of (length capacities) (group_in new_bytes))) s
              (λ place class low.
              rows-of_pages new_bytes (length capacities) (omega (arith, new_lengths)) place class low
              ∙ more_bytes place class (omega (arith, low, h.bytes_places))
              ∙ ap (λ g. more_at Bytes place class g (record { gain = s.size; area = area_of s })) (sym (rows-of_pages bytes (length capacities) lengths place class low)))
              are.bytes;
        }

        -- are kept
        pub kept-more : 0 < s.size → count + 1 < 2 ^ 32 → AreKept capacities (count + 1) new_hits new_bytes
        kept-more some room = record {
          sums = record {
            capacities = h.sums.capacities;
            count = room;
            spans = h.sums.spans ++ s ∷ [];
            ranges = All-append IsInRange h.sums.spans (s ∷ []) h.sums.ranges (All-cons IsInRange s [] range (All-nil IsInRange));
            are = sums-more h.sums.spans some h.sums.are;
          };
          hits_places = hits_rows.places ∙ h.hits_places;
          bytes_places = bytes_rows.places ∙ h.bytes_places;
          areas = new_areas;
          lengths = new_lengths;
        }

      -- and without it
      module _ (same_hits : HasSameGroups hits new_hits) (same_bytes : HasSameGroups bytes new_bytes) where
        pub sums-same : sums_in capacities count new_hits new_bytes ≡ sums_in capacities count hits bytes
        sums-same = λ i. record {
          capacities = capacities;
          count = count;
          hits = rows-same (length capacities) hits new_hits same_hits i;
          bytes = rows-same (length capacities) bytes new_bytes same_bytes i;
        }

        pub kept-same : AreKept capacities count new_hits new_bytes
        kept-same = record {
          sums = subst AreSums (sym sums-same) h.sums;
          hits_places = hits_rows.places ∙ h.hits_places;
          bytes_places = bytes_rows.places ∙ h.bytes_places;
          areas = new_areas;
          lengths = new_lengths;
        }

  -- so they are groups of spans
  pub hits-of_spans : AreOfSpans capacities (hits.rows * 64) (group_in hits)
  hits-of_spans = record {
    objective = Hits;
    spans = h.sums.spans;
    few = few_spans;
    ranges = h.sums.ranges;
    are = hits-are;
    within = h.areas;
    none_above = none-after hits;
  }

  pub bytes-of_spans : AreOfSpans capacities (bytes.rows * 64) (group_in bytes)
  bytes-of_spans = record {
    objective = Bytes;
    spans = h.sums.spans;
    few = few_spans;
    ranges = h.sums.ranges;
    are = bytes-are;
    within = h.lengths;
    none_above = none-after bytes;
  }

  -- and bounds of whatever spans the groups are, are those of whatever spans the sums are
  pub hits-bounds : (steps : ℕ) (bounds : List EdgeBound) → AreLeastBefore (length capacities) steps capacities (group_in hits) bounds
      → AreLeastBefore (length capacities) steps capacities (groups_of (rows_of (length capacities) (group_in hits))) bounds
  hits-bounds steps bounds b = record {
    each = b.each;
    edges = b.edges;
    least = λ objective spans sizes are.
        b.least objective spans sizes (groups-same objective capacities spans (groups_of (rows_of (length capacities) (group_in hits))) (group_in hits)
        (λ place class low. sym (rows-of_pages hits (length capacities) areas place class low)) are);
  }

  pub bytes-bounds : (steps : ℕ) (bounds : List EdgeBound) → AreLeastBefore (length capacities) steps capacities (group_in bytes) bounds
      → AreLeastBefore (length capacities) steps capacities (groups_of (rows_of (length capacities) (group_in bytes))) bounds
  bytes-bounds steps bounds b = record {
    each = b.each;
    edges = b.edges;
    least = λ objective spans sizes are.
        b.least objective spans sizes (groups-same objective capacities spans (groups_of (rows_of (length capacities) (group_in bytes))) (group_in bytes)
        (λ place class low. sym (rows-of_pages bytes (length capacities) lengths place class low)) are);
  }
