-- What a push along a path changes.
use Rattle.std.proofs.Common.{◌≡◌, ◌≢◌, ℕ, suc, zero, ◌+◌, ◌-◌, ◌<◌, ◌≤◌, ◌∙◌, sym, refl, ap, subst, Bool, true, false, cond, nat_lt, nat_le, List, [], ◌∷◌, length, arith, ⊎_elim, zip, get_or, set, All, length-set, get_or-set_same, get_or-set_other}
use Rattle.std.proofs.lemmas.Bool.{cases_lt, cases_eq, lt-ltb, le-ltb, le-leb, lt-leb, and_left, and_right, and_from}
use Rattle.std.proofs.lemmas.List.Sums.{sum_by-cons}
use Rattle.std.proofs.lemmas.List.Elements.{All-head, All-tail}
use Rattle.flow_model.specs.declared.arcs.OuterArc.{OuterArc}
use Rattle.flow_model.specs.declared.edges.Edge.{Edge}
use Rattle.flow_model.specs.declared.edges.Edge.TheVariants.{Inner, InnerBack, Outer, OuterBack}
use Rattle.flow_model.specs.Instances.{Instance, IsArc, no_arc, arc_at, covers, load_at}
use Rattle.flow_model.specs.Networks.{Flows, tail, head, gain, loss, residual, IsEdge, IsBalanced, IsPotential, IsTight}
use Rattle.flow_model.specs.Pushes.{opposite, push_edge, push_path, Leads, AreApart, edge_at, IsSimple, CanPush}
use Rattle.flow_model.proofs.Equal.{zip_at, zip_from}

-- one flow for each arc and each step
pub record HasLengths (instance : Instance) (flows : Flows) : Type 0 where
  pub inner : length flows.inner ≡ instance.steps
  pub outer : length flows.outer ≡ length instance.arcs

-- the flow of the edge's step or arc
abbrev pub flow_of : Flows → Edge → ℕ
flow_of flows (Inner t) = get_or flows.inner t 0
flow_of flows (InnerBack t) = get_or flows.inner t 0
flow_of flows (Outer i) = get_or flows.outer i 0
flow_of flows (OuterBack i) = get_or flows.outer i 0

-- the load where one flow is set
load-set : (arcs : List OuterArc) (flows : List ℕ) (t i x : ℕ) → length flows ≡ length arcs → i < length arcs
    → load_at arcs (set flows i x) t + cond (covers t (arc_at arcs i)) (get_or flows i 0) 0 ≡ load_at arcs flows t + cond (covers t (arc_at arcs i)) x 0
load-set [] flows t i x same within = absurd (omega arith)
load-set (a ∷ arcs) [] t i x same within = absurd (omega arith)
load-set (a ∷ arcs) (f ∷ flows) t zero x same within =
    let term : OuterArc × ℕ → ℕ = λ (j, g). cond (covers t j) g 0 in
    omega (arith, sum_by-cons term (a, f) (zip arcs flows), sum_by-cons term (a, x) (zip arcs flows))
load-set (a ∷ arcs) (f ∷ flows) t (suc i) x same within =
    let term : OuterArc × ℕ → ℕ = λ (j, g). cond (covers t j) g 0 in
    omega (arith, sum_by-cons term (a, f) (zip arcs flows), sum_by-cons term (a, f) (zip arcs (set flows i x)), load-set arcs flows t i x (omega arith) (omega arith))

-- what step t carries in all
abbrev pub total_at : Instance → Flows → ℕ → ℕ
total_at instance flows t = get_or flows.inner t 0 + load_at instance.arcs flows.outer t

-- what a push of the amount to the node adds over step t
abbrev pub beyond : ℕ → ℕ → ℕ → ℕ
beyond amount t node = cond (nat_lt t node) amount 0

-- no arc ends before it starts
abbrev pub AreOrdered : Instance → Type 0
AreOrdered instance = (i : ℕ) → i < length instance.arcs → (arc_at instance.arcs i).start ≤ (arc_at instance.arcs i).end

-- an arc is over the steps from its start to before its end
covered : (arc : OuterArc) (amount t : ℕ) → arc.start ≤ arc.end → cond (covers t arc) amount 0 + beyond amount t arc.start ≡ beyond amount t arc.end
covered arc amount t order =
    ⊎_elim
    (λ (h : t < arc.start).
    let first : covers t arc ≡ false = and_left (nat_le arc.start t) (nat_lt t arc.end) (lt-leb arc.start t h) in
    omega (arith, ap (λ s. cond s amount 0) first, ap (λ s. cond s amount 0) (lt-ltb t arc.start h), ap (λ s. cond s amount 0) (lt-ltb t arc.end (omega arith))))
    (λ (h : arc.start ≤ t).
    ⊎_elim
    (λ (k : t < arc.end).
    let both : covers t arc ≡ true = and_from (nat_le arc.start t) (nat_lt t arc.end) (le-leb arc.start t h) (lt-ltb t arc.end k) in
    omega (arith, ap (λ s. cond s amount 0) both, ap (λ s. cond s amount 0) (le-ltb t arc.start h), ap (λ s. cond s amount 0) (lt-ltb t arc.end k)))
    (λ (k : arc.end ≤ t).
    let second : covers t arc ≡ false = and_right (nat_le arc.start t) (nat_lt t arc.end) (le-ltb t arc.end k) in
    omega (arith, ap (λ s. cond s amount 0) second, ap (λ s. cond s amount 0) (le-ltb t arc.start h), ap (λ s. cond s amount 0) (le-ltb t arc.end k)))
    (cases_lt t arc.end))
    (cases_lt t arc.start)

beyond_next : (amount t s : ℕ) → t ≢ s → beyond amount t (s + 1) ≡ beyond amount t s
beyond_next amount t s other =
    ⊎_elim
    (λ (h : t < s). omega (arith, ap (λ b. cond b amount 0) (lt-ltb t s h), ap (λ b. cond b amount 0) (lt-ltb t (s + 1) (omega arith))))
    (λ (h : s ≤ t). omega (arith, ap (λ b. cond b amount 0) (le-ltb t s h), ap (λ b. cond b amount 0) (le-ltb t (s + 1) (omega arith))))
    (cases_lt t s)

beyond_own : (amount s : ℕ) → (beyond amount s (s + 1) ≡ amount) × (beyond amount s s ≡ 0)
beyond_own amount s = (ap (λ b. cond b amount 0) (lt-ltb s (s + 1) (omega arith)), ap (λ b. cond b amount 0) (le-ltb s s (omega arith)))

-- setting one inner flow
inner_set : (inner : List ℕ) (t s x : ℕ) → s < length inner → (t ≡ s → get_or (set inner s x) t 0 ≡ x) × (t ≢ s → get_or (set inner s x) t 0 ≡ get_or inner t 0)
inner_set inner t s x within = (λ e. ap (λ k. get_or (set inner s x) k 0) e ∙ get_or-set_same inner s x 0 within, λ n. get_or-set_other inner s t x 0 n)

cond-add : (b : Bool) (x y : ℕ) → cond b (x + y) 0 ≡ cond b x 0 + cond b y 0
cond-add true x y = refl
cond-add false x y = refl

pub push_edge-total : (instance : Instance) (flows : Flows) (amount : ℕ) (e : Edge) → AreOrdered instance → HasLengths instance flows → IsEdge instance e → amount ≤ residual instance flows e
    → (t : ℕ) → t < instance.steps
    → total_at instance (push_edge amount flows e) t + beyond amount t (tail instance.arcs e) ≡ total_at instance flows t + beyond amount t (head instance.arcs e)
push_edge-total instance flows amount (Inner s) arcs lengths is_edge room t within =
    let at = inner_set flows.inner t s (get_or flows.inner s 0 + amount) (omega (arith, lengths.inner)) in
    ⊎_elim
    (λ (h : t ≡ s). omega (arith, at.0 h, ap (λ k. get_or flows.inner k 0) h, ap (λ k. beyond amount k (s + 1)) h, ap (λ k. beyond amount k s) h, (beyond_own amount s).0, (beyond_own amount s).1))
    (λ (h : t ≡ s → ⊥). omega (arith, at.1 h, beyond_next amount t s h))
    (cases_eq t s)
push_edge-total instance flows amount (InnerBack s) arcs lengths is_edge room t within =
    let at = inner_set flows.inner t s (get_or flows.inner s 0 - amount) (omega (arith, lengths.inner)) in
    ⊎_elim
    (λ (h : t ≡ s). omega (arith, at.0 h, ap (λ k. get_or flows.inner k 0) h, ap (λ k. beyond amount k (s + 1)) h, ap (λ k. beyond amount k s) h, (beyond_own amount s).0, (beyond_own amount s).1))
    (λ (h : t ≡ s → ⊥). omega (arith, at.1 h, beyond_next amount t s h))
    (cases_eq t s)
push_edge-total instance flows amount (Outer i) arcs lengths is_edge room t within =
    let f : ℕ = get_or flows.outer i 0 in
    let order : (arc_at instance.arcs i).start ≤ (arc_at instance.arcs i).end = arcs i is_edge in
    omega (arith, load-set instance.arcs flows.outer t i (f + amount) lengths.outer is_edge, cond-add (covers t (arc_at instance.arcs i)) f amount, covered (arc_at instance.arcs i) amount t order)
push_edge-total instance flows amount (OuterBack i) arcs lengths is_edge room t within =
    let f : ℕ = get_or flows.outer i 0 in
    let order : (arc_at instance.arcs i).start ≤ (arc_at instance.arcs i).end = arcs i is_edge in
    let whole : (f - amount) + amount ≡ f = omega arith in
    omega (arith, load-set instance.arcs flows.outer t i (f - amount) lengths.outer is_edge, cond-add (covers t (arc_at instance.arcs i)) (f - amount) amount, ap (λ n. cond (covers t (arc_at instance.arcs i)) n 0) whole, covered (arc_at instance.arcs i) amount t order)

pub push_edge-lengths : (instance : Instance) (flows : Flows) (amount : ℕ) (e : Edge) → HasLengths instance flows → HasLengths instance (push_edge amount flows e)
push_edge-lengths instance flows amount (Inner t) lengths = record { inner = length-set _ _ _ ∙ lengths.inner; outer = lengths.outer }
push_edge-lengths instance flows amount (InnerBack t) lengths = record { inner = length-set _ _ _ ∙ lengths.inner; outer = lengths.outer }
push_edge-lengths instance flows amount (Outer i) lengths = record { inner = lengths.inner; outer = length-set _ _ _ ∙ lengths.outer }
push_edge-lengths instance flows amount (OuterBack i) lengths = record { inner = lengths.inner; outer = length-set _ _ _ ∙ lengths.outer }

-- an edge that is apart keeps its flow
pub push_edge-apart : (amount : ℕ) (flows : Flows) (e f : Edge) → AreApart e f → flow_of (push_edge amount flows e) f ≡ flow_of flows f
push_edge-apart amount flows (Inner s) (Inner t) apart = get_or-set_other _ s t _ 0 (λ h. apart.0 (ap Inner h))
push_edge-apart amount flows (Inner s) (InnerBack t) apart = get_or-set_other _ s t _ 0 (λ h. apart.1 (ap InnerBack h))
push_edge-apart amount flows (Inner s) (Outer i) apart = refl
push_edge-apart amount flows (Inner s) (OuterBack i) apart = refl
push_edge-apart amount flows (InnerBack s) (Inner t) apart = get_or-set_other _ s t _ 0 (λ h. apart.1 (ap Inner h))
push_edge-apart amount flows (InnerBack s) (InnerBack t) apart = get_or-set_other _ s t _ 0 (λ h. apart.0 (ap InnerBack h))
push_edge-apart amount flows (InnerBack s) (Outer i) apart = refl
push_edge-apart amount flows (InnerBack s) (OuterBack i) apart = refl
push_edge-apart amount flows (Outer i) (Inner t) apart = refl
push_edge-apart amount flows (Outer i) (InnerBack t) apart = refl
push_edge-apart amount flows (Outer i) (Outer j) apart = get_or-set_other _ i j _ 0 (λ h. apart.0 (ap Outer h))
push_edge-apart amount flows (Outer i) (OuterBack j) apart = get_or-set_other _ i j _ 0 (λ h. apart.1 (ap OuterBack h))
push_edge-apart amount flows (OuterBack i) (Inner t) apart = refl
push_edge-apart amount flows (OuterBack i) (InnerBack t) apart = refl
push_edge-apart amount flows (OuterBack i) (Outer j) apart = get_or-set_other _ i j _ 0 (λ h. apart.1 (ap Outer h))
push_edge-apart amount flows (OuterBack i) (OuterBack j) apart = get_or-set_other _ i j _ 0 (λ h. apart.0 (ap OuterBack h))

-- equal flows have equal residuals
pub residual-same : (instance : Instance) (flows others : Flows) (e : Edge) → flow_of flows e ≡ flow_of others e → residual instance flows e ≡ residual instance others e
residual-same instance flows others (Inner t) same = refl
residual-same instance flows others (InnerBack t) same = same
residual-same instance flows others (Outer i) same = ap (λ n. (arc_at instance.arcs i).weight - n) same
residual-same instance flows others (OuterBack i) same = same

-- no flow passes its weight
abbrev pub AreWithin : Instance → Flows → Type 0
AreWithin instance flows = (i : ℕ) → i < length instance.arcs → get_or flows.outer i 0 ≤ (arc_at instance.arcs i).weight

pub push_edge-within : (instance : Instance) (flows : Flows) (amount : ℕ) (e : Edge) → HasLengths instance flows → AreWithin instance flows → IsEdge instance e → amount ≤ residual instance flows e → AreWithin instance (push_edge amount flows e)
push_edge-within instance flows amount (Inner t) lengths within is_edge room = within
push_edge-within instance flows amount (InnerBack t) lengths within is_edge room = within
push_edge-within instance flows amount (Outer i) lengths within is_edge room = λ k h.
    let at = inner_set flows.outer k i (get_or flows.outer i 0 + amount) (omega (arith, lengths.outer)) in
    ⊎_elim (λ (e : k ≡ i). omega (arith, at.0 e, within i is_edge, ap (λ n. (arc_at instance.arcs n).weight) e)) (λ (n : k ≡ i → ⊥). omega (arith, at.1 n, within k h)) (cases_eq k i)
push_edge-within instance flows amount (OuterBack i) lengths within is_edge room = λ k h.
    let at = inner_set flows.outer k i (get_or flows.outer i 0 - amount) (omega (arith, lengths.outer)) in
    ⊎_elim (λ (e : k ≡ i). omega (arith, at.0 e, within i is_edge, ap (λ n. (arc_at instance.arcs n).weight) e)) (λ (n : k ≡ i → ⊥). omega (arith, at.1 n, within k h)) (cases_eq k i)

-- what one push leaves for the rest of the path
room_after : (instance : Instance) (flows : Flows) (amount : ℕ) (e : Edge) (path : List Edge) → IsSimple (e ∷ path) → All (λ f. amount ≤ residual instance flows f) path → All (λ f. amount ≤ residual instance (push_edge amount flows e) f) path
room_after instance flows amount e path simple room = λ k d h.
    let f : Edge = get_or path k d in
    let apart : AreApart e (get_or path k d) = at k d h (simple 0 (suc k) (omega arith) (omega arith)) in
    let same = residual-same instance (push_edge amount flows e) flows f (push_edge-apart amount flows e f apart) in
    omega (arith, same, room k d h)
  where
    at : (k : ℕ) (d : Edge) → k < length path → AreApart e (edge_at path k) → AreApart e (get_or path k d)
    at k d h apart = subst (λ (f : Edge). AreApart e f) (get_or_any path k h) apart
      where
        get_or_any : (xs : List Edge) (j : ℕ) → j < length xs → get_or xs j (Inner 0) ≡ get_or xs j d
        get_or_any [] j l = absurd (omega arith)
        get_or_any (x ∷ xs) zero l = refl
        get_or_any (x ∷ xs) (suc j) l = get_or_any xs j (omega arith)

pub simple-tail : (e : Edge) (path : List Edge) → IsSimple (e ∷ path) → IsSimple path
simple-tail e path simple = λ j k l h. simple (suc j) (suc k) (omega arith) (omega arith)

pub record Pushed (instance : Instance) (old new : Flows) (amount from to : ℕ) : Type 0 where
  pub lengths : HasLengths instance new
  pub within : AreWithin instance new
  pub totals : (t : ℕ) → t < instance.steps → total_at instance new t + beyond amount t from ≡ total_at instance old t + beyond amount t to

pub push_path-totals : (instance : Instance) (amount : ℕ) (path : List Edge) (flows : Flows) (from to : ℕ) → AreOrdered instance → HasLengths instance flows → AreWithin instance flows
    → Leads instance.arcs from path to → All (IsEdge instance) path → All (λ e. amount ≤ residual instance flows e) path → IsSimple path
    → Pushed instance flows (push_path amount flows path) amount from to
push_path-totals instance amount [] flows from to arcs lengths within leads edges room simple =
    record { lengths = lengths; within = within; totals = λ t h. ap (λ n. total_at instance flows t + beyond amount t n) leads }
push_path-totals instance amount (e ∷ path) flows from to arcs lengths within leads edges room simple =
    let own : IsEdge instance e = All-head (IsEdge instance) e path edges in
    let has : amount ≤ residual instance flows e = All-head (λ f. amount ≤ residual instance flows f) e path room in
    let next : Flows = push_edge amount flows e in
    let rest : Pushed instance next (push_path amount next path) amount (head instance.arcs e) to =
    push_path-totals instance amount path next (head instance.arcs e) to arcs (push_edge-lengths instance flows amount e lengths) (push_edge-within instance flows amount e lengths within own has)
    leads.1 (All-tail (IsEdge instance) e path edges) (room_after instance flows amount e path simple (All-tail (λ f. amount ≤ residual instance flows f) e path room)) (simple-tail e path simple) in
    record {
      lengths = rest.lengths;
      within = rest.within;
      totals = λ t h. omega (arith, rest.totals t h, push_edge-total instance flows amount e arcs lengths own has t h, ap (λ n. beyond amount t n) leads.0);
    }

pub push_path-balanced : (instance : Instance) (flows : Flows) (path : List Edge) (amount pushed : ℕ) → All (IsArc instance.steps) instance.arcs → IsBalanced instance flows pushed → CanPush instance flows path amount
    → IsBalanced instance (push_path amount flows path) (pushed + amount)
push_path-balanced instance flows path amount pushed arcs balanced can =
    let weights = zip_at instance.arcs flows.outer balanced.within_weights in
    let after : Pushed instance flows (push_path amount flows path) amount 0 instance.steps =
    push_path-totals instance amount path flows 0 instance.steps (λ i h. omega (arith, (arcs i no_arc h).order)) (record { inner = balanced.each_step; outer = weights.0 }) weights.1 can.leads can.edges can.room can.simple in
    record {
      within_weights = zip_from instance.arcs (push_path amount flows path).outer after.lengths.outer after.within;
      each_step = after.lengths.inner;
      balance = λ t h.
          omega (arith, after.totals t h, balanced.balance t h, ap (λ b. cond b amount 0) (le-ltb t 0 (omega arith)), ap (λ b. cond b amount 0) (lt-ltb t instance.steps h));
    }

-- where an edge gains room, its opposite was pushed along
push_edge-rises : (instance : Instance) (flows : Flows) (amount : ℕ) (e f : Edge) → HasLengths instance flows → IsEdge instance e → residual instance flows f < residual instance (push_edge amount flows e) f → f ≡ opposite e
push_edge-rises instance flows amount (Inner s) (Inner t) lengths is_edge rises = absurd (omega arith)
push_edge-rises instance flows amount (Inner s) (InnerBack t) lengths is_edge rises =
    ⊎_elim (λ (h : t ≡ s). ap InnerBack h) (λ (h : t ≡ s → ⊥). absurd (omega (arith, get_or-set_other flows.inner s t (get_or flows.inner s 0 + amount) 0 h))) (cases_eq t s)
push_edge-rises instance flows amount (Inner s) (Outer i) lengths is_edge rises = absurd (omega arith)
push_edge-rises instance flows amount (Inner s) (OuterBack i) lengths is_edge rises = absurd (omega arith)
push_edge-rises instance flows amount (InnerBack s) (Inner t) lengths is_edge rises = absurd (omega arith)
push_edge-rises instance flows amount (InnerBack s) (InnerBack t) lengths is_edge rises =
    let at = inner_set flows.inner t s (get_or flows.inner s 0 - amount) (omega (arith, lengths.inner)) in
    ⊎_elim (λ (h : t ≡ s). absurd (omega (arith, at.0 h, ap (λ k. get_or flows.inner k 0) h))) (λ (h : t ≡ s → ⊥). absurd (omega (arith, at.1 h))) (cases_eq t s)
push_edge-rises instance flows amount (InnerBack s) (Outer i) lengths is_edge rises = absurd (omega arith)
push_edge-rises instance flows amount (InnerBack s) (OuterBack i) lengths is_edge rises = absurd (omega arith)
push_edge-rises instance flows amount (Outer i) (Inner t) lengths is_edge rises = absurd (omega arith)
push_edge-rises instance flows amount (Outer i) (InnerBack t) lengths is_edge rises = absurd (omega arith)
push_edge-rises instance flows amount (Outer i) (Outer j) lengths is_edge rises =
    let at = inner_set flows.outer j i (get_or flows.outer i 0 + amount) (omega (arith, lengths.outer)) in
    ⊎_elim (λ (h : j ≡ i). absurd (omega (arith, at.0 h, ap (λ k. get_or flows.outer k 0) h))) (λ (h : j ≡ i → ⊥). absurd (omega (arith, at.1 h))) (cases_eq j i)
push_edge-rises instance flows amount (Outer i) (OuterBack j) lengths is_edge rises =
    ⊎_elim (λ (h : j ≡ i). ap OuterBack h) (λ (h : j ≡ i → ⊥). absurd (omega (arith, get_or-set_other flows.outer i j (get_or flows.outer i 0 + amount) 0 h))) (cases_eq j i)
push_edge-rises instance flows amount (OuterBack i) (Inner t) lengths is_edge rises = absurd (omega arith)
push_edge-rises instance flows amount (OuterBack i) (InnerBack t) lengths is_edge rises = absurd (omega arith)
push_edge-rises instance flows amount (OuterBack i) (Outer j) lengths is_edge rises =
    ⊎_elim (λ (h : j ≡ i). ap Outer h) (λ (h : j ≡ i → ⊥). absurd (omega (arith, get_or-set_other flows.outer i j (get_or flows.outer i 0 - amount) 0 h))) (cases_eq j i)
push_edge-rises instance flows amount (OuterBack i) (OuterBack j) lengths is_edge rises =
    let at = inner_set flows.outer j i (get_or flows.outer i 0 - amount) (omega (arith, lengths.outer)) in
    ⊎_elim (λ (h : j ≡ i). absurd (omega (arith, at.0 h, ap (λ k. get_or flows.outer k 0) h))) (λ (h : j ≡ i → ⊥). absurd (omega (arith, at.1 h))) (cases_eq j i)

-- an edge gains room only if its opposite is on the path: there is an edge of the path with it for opposite
pub push_path-rises : (instance : Instance) (amount : ℕ) (path : List Edge) (flows : Flows) (f : Edge) → HasLengths instance flows → All (IsEdge instance) path
    → residual instance flows f < residual instance (push_path amount flows path) f → (k : ℕ) × (k < length path) × (f ≡ opposite (edge_at path k))
push_path-rises instance amount [] flows f lengths edges rises = absurd (omega arith)
push_path-rises instance amount (e ∷ path) flows f lengths edges rises =
    let next : Flows = push_edge amount flows e in
    ⊎_elim
    (λ (h : residual instance flows f < residual instance next f). (0, omega arith, push_edge-rises instance flows amount e f lengths (All-head (IsEdge instance) e path edges) h))
    (λ (h : residual instance next f ≤ residual instance flows f).
    let later = push_path-rises instance amount path next f (push_edge-lengths instance flows amount e lengths) (All-tail (IsEdge instance) e path edges) (omega arith) in
    (suc later.0, omega (arith, later.1), later.2))
    (cases_lt (residual instance flows f) (residual instance next f))

-- the opposite of a tight edge has no positive reduced cost
pub opposite_tight : (instance : Instance) (potential : ℕ → ℕ) (e : Edge)
    → gain instance.arcs e + potential (head instance.arcs e) ≡ loss instance.arcs e + potential (tail instance.arcs e)
    → gain instance.arcs (opposite e) + potential (head instance.arcs (opposite e)) ≤ loss instance.arcs (opposite e) + potential (tail instance.arcs (opposite e))
opposite_tight instance potential (Inner t) tight = omega arith
opposite_tight instance potential (InnerBack t) tight = omega arith
opposite_tight instance potential (Outer i) tight = omega arith
opposite_tight instance potential (OuterBack i) tight = omega arith

pub push_path-potential : (instance : Instance) (flows : Flows) (path : List Edge) (amount : ℕ) (potential : ℕ → ℕ) → HasLengths instance flows → IsPotential instance flows potential → All (IsTight instance flows potential) path
    → IsPotential instance (push_path amount flows path) potential
push_path-potential instance flows path amount potential lengths valid tight = λ f is_edge room.
    ⊎_elim
    (λ (h : 0 < residual instance flows f). valid f is_edge h)
    (λ (h : residual instance flows f ≤ 0).
    let edges : All (IsEdge instance) path = λ k d l. (tight k d l).is_edge in
    let from = push_path-rises instance amount path flows f lengths edges (omega arith) in
    let e : Edge = edge_at path from.0 in
    subst (λ (g : Edge). gain instance.arcs g + potential (head instance.arcs g) ≤ loss instance.arcs g + potential (tail instance.arcs g)) (sym from.2) (opposite_tight instance potential e (tight from.0 (Inner 0) from.1).tight))
    (cases_lt 0 (residual instance flows f))
