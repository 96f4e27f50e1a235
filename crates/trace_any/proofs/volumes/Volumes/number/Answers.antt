use Rattle.std.proofs.Common.{◌≡◌, ◌≤◌, ◌∙◌, Bool, true, false, cond, List, length, sym, ap, map, arith, rules}
use Rattle.std.proofs.lemmas.List.{length-map}
use Rattle.trace_any.specs.Volumes.{Volume, same_volume, volume_number, with_volume}
use Rattle.trace_any.specs.declared.volumes.VolumeKey.{VolumeKey}
use Rattle.trace_any.proofs.VolumeSteps.{list_any-missing, position_or_len-position, volume_number-map, with_volume-known, map-insert_key}
use Rattle.trace_any.proofs.volumes.Volumes.number.Goals as goal

-- the volume that a key stands for
shown : VolumeKey → Volume
shown k = record { host = k.host.items; disk = k.disk }

-- there are as many keys as volumes, and at most one more later
as_many : (keys : List VolumeKey) (volumes : List Volume) → map shown keys ≡ volumes → length keys ≡ length volumes
as_many keys volumes view = sym (length-map keys shown) ∙ ap length view

at_most_one : (b : Bool) → cond b 1 0 ≤ 1
at_most_one true = omega arith
at_most_one false = omega arith

pub overflow_add-result : goal.overflow_add-result
unfolding shown
overflow_add-result c = omega (arith, c.in-Some.ensures.within, as_many c.self.inside.keys.keys c.args.self.now c.self.view_is, c.requires.few)

pub overflow_add-result-2 : goal.overflow_add-result-2
unfolding shown
overflow_add-result-2 c =
    let kept = as_many c.self.inside.keys.keys c.args.self.now c.self.view_is in
    omega (arith, c.in_ok-index.ensures.within, c.in_ok-index.ensures.len, at_most_one c.in_ok-index.field-0-1, kept, c.requires.few)

pub returns-in-Some-clause-number : goal.returns-in-Some-clause-number
unfolding shown
returns-in-Some-clause-number c =
    let v : Volume = record { host = c.args.host.now; disk = c.args.disk } in
    let keys = c.self.inside.keys.keys in
    volume_number-map shown v keys c.in-Some.index (position_or_len-position (λ k. same_volume v (shown k)) keys c.in-Some.index c.in-Some.ensures.index)
    ∙ ap (λ volumes. volume_number volumes v) c.self.view_is

pub returns-in-Some-clause-volumes : goal.returns-in-Some-clause-volumes
unfolding shown
returns-in-Some-clause-volumes c =
    let v : Volume = record { host = c.args.host.now; disk = c.args.disk } in
    sym c.self.view_is ∙ sym (with_volume-known shown v c.self.inside.keys.keys (sym c.in-Some.ensures.found)) ∙ ap (λ volumes. with_volume volumes v) c.self.view_is

pub returns-clause-number : goal.returns-clause-number
unfolding shown
returns-clause-number c =
    let kept : VolumeKey = record { host = c.in_ok-from_slice.field-0; disk = c.args.disk } in
    volume_number-map shown (shown kept) c.self.inside.keys.keys c.in_ok-index.index c.in_ok-index.ensures.index
    ∙ ap (λ host. volume_number (map shown c.self.inside.keys.keys) (record { host = host; disk = c.args.disk })) c.in_ok-from_slice.ensures.items
    ∙ ap (λ volumes. volume_number volumes (record { host = c.args.host.now; disk = c.args.disk })) c.self.view_is

pub returns-clause-volumes : goal.returns-clause-volumes
unfolding shown
returns-clause-volumes c =
    let kept : VolumeKey = record { host = c.in_ok-from_slice.field-0; disk = c.args.disk } in
    ap (map shown) c.in_ok-index.ensures.keys
    ∙ map-insert_key shown c.self.inside.keys.keys kept
    ∙ ap (λ host. with_volume (map shown c.self.inside.keys.keys) (record { host = host; disk = c.args.disk })) c.in_ok-from_slice.ensures.items
    ∙ ap (λ volumes. with_volume volumes (record { host = c.args.host.now; disk = c.args.disk })) c.self.view_is

pub returns-in_err-from_slice-clause-err_only_if_new : goal.returns-in_err-from_slice-clause-err_only_if_new
unfolding shown
returns-in_err-from_slice-clause-err_only_if_new c =
    let new = list_any-missing shown (record { host = c.args.host.now; disk = c.args.disk }) c.self.inside.keys.keys c.args.self.now c.self.view_is c.in_default.ensures.found in
    search (rules, new)

pub returns-in_err-index-clause-err_only_if_new : goal.returns-in_err-index-clause-err_only_if_new
unfolding shown
returns-in_err-index-clause-err_only_if_new c =
    let new = list_any-missing shown (record { host = c.args.host.now; disk = c.args.disk }) c.self.inside.keys.keys c.args.self.now c.self.view_is c.in_default.ensures.found in
    search (rules, new)
