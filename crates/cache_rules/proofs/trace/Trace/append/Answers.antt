use Rattle.std.proofs.Common.{Bool, List, ◌≡◌, ◌∙◌, ◌++◌, ◌∷◌, [], ap, sym, arith, length, set, Some, None}
use Rattle.std.specs.HashMap.{keys}
use Rattle.std.specs.List.{position_or_len}
use Rattle.std.specs.Map.{lookup}
use Rattle.indexmap.specs.IndexMap.{insert_entry}
use Rattle.cache_model.specs.declared.objects.Object.{Object}
use Rattle.cache_model.specs.Claim.{same_object}
use Rattle.cache_model.proofs.DifferentObjects.{same_object-derived}
use Rattle.cache_rules.specs.Stored.{Requests, with_mark, no_request, trace_of, IsStored}
use Rattle.cache_rules.proofs.Appended.{few_numbers, earlier_within, IsStored-added, IsStored-updated}
use Rattle.cache_rules.proofs.Pushed.{IsStored-own}
use Rattle.cache_rules.proofs.trace.Trace.append.Goals as goal

pub overflow_cast-number : goal.overflow_cast-number
overflow_cast-number c =
    let was = c.self.inside in
    let place : c.in_ok-number.number ≡ position_or_len (same_object c.args.object) (keys was.latest) =
    c.in_ok-number.ensures.index ∙ ap (λ same. position_or_len (same c.args.object) (keys was.latest)) same_object-derived in
    omega (arith, few_numbers was.latest.entries was.numbers.items was.previous.items was.following.items c.self.invariant c.args.object c.in_ok-number.number place)

pub index_mut-requires : goal.index_mut-requires
index_mut-requires c =
    let was = c.self.inside in
    let place : c.in_ok-number.number ≡ position_or_len (same_object c.args.object) (keys was.latest) =
    c.in_ok-number.ensures.index ∙ ap (λ same. position_or_len (same c.args.object) (keys was.latest)) same_object-derived in
    let found : lookup (same_object c.args.object) was.latest.entries ≡ Some c.in-Some.earlier =
    sym (ap (λ same. lookup (same c.args.object) was.latest.entries) same_object-derived) ∙ sym c.in_ok-number.ensures.old ∙ c.in-Some.is in
    omega (
      arith,
      c.push_reserved-2.ensures.len,
      c.make_room.new.following.ok.0,
      ap length c.make_room.ensures.same_following,
      earlier_within was.latest.entries was.numbers.items was.previous.items was.following.items c.self.invariant c.args.object c.requires.size (rw (ap (λ (r : Requests). r.objects) c.self.view_is) c.requires.few)
          c.len-t.result (c.len-t.ensures ∙ was.numbers.ok.0) c.in_ok-number.number place c.in-Some.earlier found,
    )

requests : List Object → List Bool → Requests
requests objects fills = record { objects = objects; fills = fills }

-- what is stored after a request of an object that was asked for
stored-in-Some : (c : goal.After-self-1) → IsStored (trace_of (keys c.self.inside.latest) c.self.inside.numbers.items ++ c.args.object ∷ [])
    c.insert_full.new.self.entries c.push_reserved.new.self.items c.push_reserved-in-Some.new.self.items (set c.push_reserved-2.new.self.items c.in-Some.earlier c.len-t.result)
stored-in-Some c =
    let was = c.self.inside in
    let place : c.in_ok-number.number ≡ position_or_len (same_object c.args.object) (keys was.latest) =
    c.in_ok-number.ensures.index ∙ ap (λ same. position_or_len (same c.args.object) (keys was.latest)) same_object-derived in
    let found : lookup (same_object c.args.object) was.latest.entries ≡ Some c.in-Some.earlier =
    sym (ap (λ same. lookup (same c.args.object) was.latest.entries) same_object-derived) ∙ sym c.in_ok-number.ensures.old ∙ c.in-Some.is in
    IsStored-updated was.latest.entries was.numbers.items was.previous.items was.following.items c.self.invariant c.args.object c.requires.size (rw (ap (λ (r : Requests). r.objects) c.self.view_is) c.requires.few)
    c.len-t.result (c.len-t.ensures ∙ was.numbers.ok.0) c.in_ok-number.number place c.in-Some.earlier found
    c.insert_full.new.self.entries c.push_reserved.new.self.items c.push_reserved-in-Some.new.self.items (set c.push_reserved-2.new.self.items c.in-Some.earlier c.len-t.result)
    (c.in_ok-number.ensures.entries ∙ ap (λ same. insert_entry same was.latest.entries c.args.object c.len-t.result) same_object-derived)
    (c.push_reserved.ensures.items ∙ ap (λ xs. xs ++ c.in_ok-number.number ∷ []) c.make_room.ensures.same_numbers)
    (c.push_reserved-in-Some.ensures.items ∙ ap (λ xs. xs ++ c.in-Some.earlier ∷ []) c.make_room.ensures.same_previous)
    (ap (λ xs. set xs c.in-Some.earlier c.len-t.result) (c.push_reserved-2.ensures.items ∙ ap (λ xs. xs ++ no_request ∷ []) c.make_room.ensures.same_following))

-- what is stored after the first request of an object
stored-in-None : (c : goal.After-push_reserved-in-None) → IsStored (trace_of (keys c.self.inside.latest) c.self.inside.numbers.items ++ c.args.object ∷ [])
    c.insert_full.new.self.entries c.push_reserved.new.self.items c.push_reserved-in-None.new.self.items c.push_reserved-2.new.self.items
stored-in-None c =
    let was = c.self.inside in
    let place : c.in_ok-number.number ≡ position_or_len (same_object c.args.object) (keys was.latest) =
    c.in_ok-number.ensures.index ∙ ap (λ same. position_or_len (same c.args.object) (keys was.latest)) same_object-derived in
    let found : lookup (same_object c.args.object) was.latest.entries ≡ None =
    sym (ap (λ same. lookup (same c.args.object) was.latest.entries) same_object-derived) ∙ sym c.in_ok-number.ensures.old ∙ c.in-None.is in
    IsStored-added was.latest.entries was.numbers.items was.previous.items was.following.items c.self.invariant c.args.object c.requires.size (rw (ap (λ (r : Requests). r.objects) c.self.view_is) c.requires.few)
    c.len-t.result (c.len-t.ensures ∙ was.numbers.ok.0) c.in_ok-number.number place found
    c.insert_full.new.self.entries c.push_reserved.new.self.items c.push_reserved-in-None.new.self.items c.push_reserved-2.new.self.items
    (c.in_ok-number.ensures.entries ∙ ap (λ same. insert_entry same was.latest.entries c.args.object c.len-t.result) same_object-derived)
    (c.push_reserved.ensures.items ∙ ap (λ xs. xs ++ c.in_ok-number.number ∷ []) c.make_room.ensures.same_numbers)
    (c.push_reserved-in-None.ensures.items ∙ ap (λ xs. xs ++ no_request ∷ []) c.make_room.ensures.same_previous)
    (c.push_reserved-2.ensures.items ∙ ap (λ xs. xs ++ no_request ∷ []) c.make_room.ensures.same_following)

pub invariant_of-self-in-Some : goal.invariant_of-self-in-Some
invariant_of-self-in-Some c =
    IsStored-own (trace_of (keys c.self.inside.latest) c.self.inside.numbers.items ++ c.args.object ∷ [])
    c.insert_full.new.self.entries c.push_reserved.new.self.items c.push_reserved-in-Some.new.self.items (set c.push_reserved-2.new.self.items c.in-Some.earlier c.len-t.result)
    (stored-in-Some c)

pub invariant_of-self-in-None : goal.invariant_of-self-in-None
invariant_of-self-in-None c =
    IsStored-own (trace_of (keys c.self.inside.latest) c.self.inside.numbers.items ++ c.args.object ∷ [])
    c.insert_full.new.self.entries c.push_reserved.new.self.items c.push_reserved-in-None.new.self.items c.push_reserved-2.new.self.items
    (stored-in-None c)

-- both lists are equal
same_requests : (xs ys : List Object) (f g : List Bool) → xs ≡ ys → f ≡ g → requests xs f ≡ requests ys g
unfolding requests
same_requests xs ys f g objects fills = ap (λ zs. requests zs f) objects ∙ ap (requests ys) fills

pub returns-in-Some-clause-ok : goal.returns-in-Some-clause-ok
unfolding requests
returns-in-Some-clause-ok c =
    same_requests _ _ _ _
    ((stored-in-Some c).requests ∙ ap (λ ts. ts ++ c.args.object ∷ []) (ap (λ (r : Requests). r.objects) c.self.view_is))
    (c.push_mark.ensures ∙ ap (λ xs. with_mark xs c.args.mark) (c.make_room_for_mark.ensures.same ∙ ap (λ (r : Requests). r.fills) c.self.view_is))

pub returns-in-None-clause-ok : goal.returns-in-None-clause-ok
unfolding requests
returns-in-None-clause-ok c =
    same_requests _ _ _ _
    ((stored-in-None c).requests ∙ ap (λ ts. ts ++ c.args.object ∷ []) (ap (λ (r : Requests). r.objects) c.self.view_is))
    (c.push_mark.ensures ∙ ap (λ xs. with_mark xs c.args.mark) (c.make_room_for_mark.ensures.same ∙ ap (λ (r : Requests). r.fills) c.self.view_is))
