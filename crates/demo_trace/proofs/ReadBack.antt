-- The lines of requests are read back as these requests.
use Rattle.std.proofs.Common.{◌≡◌, ℕ, ◌+◌, ◌-◌, ◌*◌, ◌^◌, ◌≤◌, ◌<◌, ◌∙◌, sym, refl, ap, false, List, [], ◌∷◌, ◌++◌, length, map, fold, min, arith, append_assoc, append-nil, zero-add, add-zero, Some, None, Ok}
use Rattle.std.specs.Prelude.{All, nat_lt}
use Rattle.std.specs.List.{slice_split}
use Rattle.std.proofs.lemmas.Bool.{le-ltb}
use Rattle.std.proofs.lemmas.List.{length-append}
use Rattle.std.proofs.lemmas.List.Elements.{All-head, All-tail}
use Rattle.std.proofs.lemmas.List.Splits.{slice_split_at, length-slice_split}
use Rattle.bound_io.specs.Lines.{is_lf}
use Rattle.cache_model.specs.declared.objects.Object.{Object}
use Rattle.cache_model.specs.Texts.{line, text_of}
use Rattle.trace_lines.specs.declared.line.Span.TheVariants.{One}
use Rattle.trace_any.specs.Readings.{Reading, ended, full_limits, lines_of, nothing_read, read_line, reading, requested, text_content, untimed, with_line, webcache_form}
use Rattle.demo_trace.specs.Laws.{read_whole}
use Rattle.demo_trace.specs.Lines.{IsWritable, lines_from, webcache_line, webcache_text}
use Rattle.demo_trace.proofs.LineParts.{line_not_blank, line_read, line_short, line_without_cr, line_without_lf}

-- the text of a line and the bytes of it, with its LF
abbrev sized : List ℕ → List ℕ × ℕ
sized text = (text, length text + 1)

ended-cons : (text : List ℕ) (parts : List (List ℕ)) → 0 < length parts → ended (text ∷ parts) ≡ sized text ∷ ended parts
ended-cons text [] some = absurd (omega (arith, some))
ended-cons text (next ∷ more) some = refl

-- the lines of the text are those that were written
lines_apart : (n : ℕ) (xs : List Object) → n + length xs < 2 ^ 64 → All IsWritable xs → lines_of (text_of (lines_from n xs)) ≡ map sized (lines_from n xs)
lines_apart n [] low each = refl
lines_apart n (x ∷ xs) low each =
    let l = webcache_line n x in
    let rest = text_of (lines_from (n + 1) xs) in
    let whole : line l ++ rest ≡ l ++ 10 ∷ rest = append_assoc l (10 ∷ []) rest in
    let none = line_without_lf n x (omega (arith, low)) (All-head IsWritable x xs each) in
    let split : slice_split is_lf (l ++ 10 ∷ rest) ≡ l ∷ slice_split is_lf rest = slice_split_at is_lf l 10 rest none refl in
    let later = lines_apart (n + 1) xs (omega (arith, low)) (All-tail IsWritable x xs each) in
    ap lines_of whole ∙ (ap ended split ∙ (ended-cons l (slice_split is_lf rest) (omega (arith, length-slice_split is_lf rest)) ∙ ap (λ more. sized l ∷ more) later))

-- a reading of these requests and bytes, a line for each request
abbrev so_far : List Object → ℕ → ℕ → Reading
so_far requests lines bytes = record { requests = requests; fills = []; seen = nothing_read.seen; volumes = []; dropped = 0; lines = lines; bytes = bytes; refused = None }

-- there is room for one more
take_one : (done : List Object) (lines bytes id size : ℕ) → length done < 2 ^ 25
    → requested (2 ^ 25) webcache_form (so_far done lines bytes) 0 (untimed false) id 1 size ≡ so_far (done ++ record { volume = 0; id = id; size = size } ∷ []) lines bytes
take_one done lines bytes id size room =
    let full : nat_lt (2 ^ 25 - length done) 1 ≡ false = le-ltb (2 ^ 25 - length done) 1 (omega (arith, room)) in
    let one : min 1 (2 ^ 25 - length done) ≡ 1 = omega (arith, room) in
    rw (one, full) refl

-- an object of volume 0
of_volume_0 : (x : Object) → IsWritable x → record { volume = 0; id = x.id; size = x.size } ≡ x
of_volume_0 x ok = rw (sym ok.volume) refl

-- one more line
step : (done : List Object) (lines bytes n : ℕ) (x : Object) → length done < 2 ^ 25 → bytes ≤ 64 * length done → n < 2 ^ 64 → IsWritable x
    → read_line webcache_form full_limits (so_far done lines bytes) (sized (webcache_line n x)) ≡ so_far (done ++ x ∷ []) (lines + 1) (bytes + (length (webcache_line n x) + 1))
step done lines bytes n x room low low_n ok =
    let l = webcache_line n x in
    let now = so_far done (lines + 1) (bytes + (length l + 1)) in
    let short_line = line_short n x low_n ok in
    let short : nat_lt 65535 (length l) ≡ false = le-ltb 65535 (length l) (omega (arith, short_line)) in
    let within : nat_lt (2 ^ 36) (bytes + (length l + 1)) ≡ false = le-ltb (2 ^ 36) (bytes + (length l + 1)) (omega (arith, short_line, low, room)) in
    let content : text_content webcache_form l ≡ Ok (Some (record { span = One x.id x.size; volume = None; stamp = untimed false })) = rw (line_without_cr n x ok, line_not_blank n x low_n, line_read n x low_n ok) refl in
    let taken = take_one done (lines + 1) (bytes + (length l + 1)) x.id x.size room in
    rw (short, within) (ap (with_line (2 ^ 25) webcache_form now) content ∙ (taken ∙ ap (λ y. so_far (done ++ y ∷ []) (lines + 1) (bytes + (length l + 1))) (of_volume_0 x ok)))

-- the lines of the requests after those that are read
fold_from : (done xs : List Object) (bytes : ℕ) → length done + length xs ≤ 2 ^ 25 → bytes ≤ 64 * length done → All IsWritable xs
    → fold (read_line webcache_form full_limits) (so_far done (length done) bytes) (map sized (lines_from (length done + 1) xs))
    ≡ so_far (done ++ xs) (length (done ++ xs)) (bytes + length (text_of (lines_from (length done + 1) xs)))
fold_from done [] bytes few low each = rw (append-nil done, add-zero bytes) refl
fold_from done (x ∷ xs) bytes few low each =
    let n = length done + 1 in
    let ok = All-head IsWritable x xs each in
    let l = webcache_line n x in
    let next = done ++ x ∷ [] in
    let size = bytes + (length l + 1) in
    let go = fold (read_line webcache_form full_limits) in
    let count : length next ≡ n = length-append done (x ∷ []) in
    let short_line = line_short n x (omega (arith, few)) ok in
    let here = step done (length done) bytes n x (omega (arith, few)) low (omega (arith, few)) ok in
    let there = fold_from next xs size (omega (arith, count, few)) (omega (arith, count, low, short_line)) (All-tail IsWritable x xs each) in
    let rest = text_of (lines_from (n + 1) xs) in
    let total : size + length rest ≡ bytes + length (line l ++ rest) = omega (arith, length-append (line l) rest, length-append l (10 ∷ [])) in
    let all : next ++ xs ≡ done ++ x ∷ xs = append_assoc done (x ∷ []) xs in
    ap (λ r. go r (map sized (lines_from (n + 1) xs))) here
    ∙ (ap (λ m. go (so_far next m size) (map sized (lines_from (m + 1) xs))) (sym count)
    ∙ (there
    ∙ (ap (λ m. so_far (next ++ xs) (length (next ++ xs)) (size + length (text_of (lines_from (m + 1) xs)))) count
    ∙ (ap (λ b. so_far (next ++ xs) (length (next ++ xs)) b) total
    ∙ ap (λ ys. so_far ys (length ys) (bytes + length (line l ++ rest))) all))))

-- requests that are written are read
pub written_read : (requests : List Object) → length requests ≤ 2 ^ 25 → All IsWritable requests → reading webcache_form full_limits (webcache_text requests) ≡ read_whole requests
written_read requests few each =
    ap (fold (read_line webcache_form full_limits) nothing_read) (lines_apart 1 requests (omega (arith, few)) each)
    ∙ (fold_from [] requests 0 (omega (arith, few)) (omega arith) each ∙ ap (so_far requests (length requests)) (zero-add (length (webcache_text requests))))
