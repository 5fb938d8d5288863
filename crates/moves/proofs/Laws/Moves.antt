-- The moves and the definition by structure are one drill: from the definition the moves are found, and the moves leave its end as it is. Assumes nothing.
use Rattle.std.specs.Prelude.{◌≡◌, ◌↔◌, Bool, length, T}
use Rattle.std.proofs.Math.Path.{refl, ap, sym}
use Rattle.std.proofs.Common.{◌∙◌, subst, arith}
use mathlib.Core.List.{List, [], ◌∷◌, ◌++◌}
use Rattle.std.proofs.Math.Bool.{true, false}
use Prim.Native.Nat.{ℕ, zero, suc, ◌+◌, ◌≤◌, ◌<◌}
use Rattle.std.proofs.Math.ListN.{get_or}
use Rattle.std.proofs.Math.Dec.{ltb}
use borrow.Author.Tests.{lt-ltb, le-ltb, ltb-true, ltb-false}
use Rattle.plan.specs.Limits.{most_level, most_steps}
use Rattle.plan.specs.Lists.{At}
use Rattle.plan.proofs.Laws.Lists.{at_get_or, at_same, at_less}
use Rattle.plan.specs.Plan.{Table, Is, kind, children, level}
use Rattle.plan.proofs.Laws.Plan.{child-read}
use Rattle.plan.proofs.Laws.Trees.{level-child}
use Rattle.plan.specs.Kinds.{allows}
use Rattle.plan.specs.Fit.{Fit}
use Rattle.moves.specs.Drill.{Outcome, spent, wrong, full, Drill, going, ended, HasEnded, recorded, taken, in_order, times, chosen, waited, by_kind, does, doing, drill_of}
use Rattle.moves.specs.Moves.{Stand, at, over, Takes, Byte, Move, records, runs, repeats, chooses, goes_on, does_it, Reach, stay, then, Reached, Stops, all_done, none_left, no_branch, above_one, no_room, Ends, used_at, stopped}
use Rattle.moves.proofs.Laws.Drill.{order_ended, in_order-append, doing-is, no_kind, no-kind-more}

append_assoc : (xs ys zs : List ℕ) → (xs ++ ys) ++ zs ≡ xs ++ (ys ++ zs)
append_assoc [] ys zs = refl
append_assoc (x ∷ xs) ys zs = ap (λ (l : List ℕ). x ∷ l) (append_assoc xs ys zs)

module _ (t : Table) (bs : List ℕ) where
  on_then : {p q r : Stand} → Reach t bs p q → Reach t bs q r → Reach t bs p r
  on_then stay w = w
  on_then (then m v) w = then m (on_then v w)

  -- ---- from the definition to the moves
  -- from p the moves lead to where the drill e goes on with the cells rest; or to where it stops
  data Leads (rest : List ℕ) (p : Stand) : Drill → Type 0 where
    on : {u : ℕ} {ss : List ℕ} → Reach t bs p (at rest u ss) → Leads rest p (going u ss)
    off : {o : Outcome} {q : Stand} → HasEnded o → Reach t bs p q → Stops t bs o q → Leads rest p (stopped o q)

  after : {rest : List ℕ} {p q : Stand} {e : Drill} → Reach t bs p q → Leads rest q e → Leads rest p e
  after w (on v) = on (on_then w v)
  after w (off h v s) = off h (on_then w v) s

  -- then g, which leaves an ended drill as it is
  chain : {mid rest : List ℕ} {p : Stand} {e : Drill} (g : Drill → Drill) → ((d : Drill) → HasEnded d.outcome → g d ≡ d) → ((v : ℕ) (vs : List ℕ) → Leads rest (at mid v vs) (g (going v vs)))
      → Leads mid p e → Leads rest p (g e)
  chain g still k (on {u = v} {ss = vs} w) = after w (k v vs)
  chain g still k (off {o = o} {q = q} h w s) = rw (still (stopped o q) h) (off h w s)

  -- each cell of cs, done by f, leads on, whatever comes after it
  abbrev Each : (ℕ → Drill → Drill) → List ℕ → Type 0
  Each f cs = (i s : ℕ) → At cs i s → (rest : List ℕ) (u : ℕ) (ss : List ℕ) → Leads rest (at (s ∷ rest) u ss) (f s (going u ss))

  module _ (n : ℕ) where
    abbrev f : ℕ → Drill → Drill
    f = does t bs n

    order_leads : (l rest : List ℕ) → Each f l → (u : ℕ) (ss : List ℕ) → Leads rest (at (l ++ rest) u ss) (in_order f l (going u ss))
    unfolding in_order
    order_leads [] rest h u ss = on stay
    order_leads (x ∷ l) rest h u ss = chain (in_order f l) (order_ended t bs n l) (order_leads l rest (λ i. h (suc i))) (h 0 x refl (l ++ rest) u ss)

    times-ended : (cs : List ℕ) (a : ℕ) (e : Drill) → HasEnded e.outcome → times a (in_order f cs) e ≡ e
    unfolding times
    times-ended cs zero e g = refl
    times-ended cs (suc a) e g = ap (times a (in_order f cs)) (order_ended t bs n cs e g) ∙ times-ended cs a e g

    times-leads : (cs rest : List ℕ) → Each f cs → (a u : ℕ) (ss : List ℕ) → Leads rest (at (over a cs ++ rest) u ss) (times a (in_order f cs) (going u ss))
    unfolding times over
    times-leads cs rest h zero u ss = on stay
    times-leads cs rest h (suc a) u ss =
        rw (append_assoc cs (over a cs) rest) (chain (times a (in_order f cs)) (times-ended cs a) (times-leads cs rest h a) (order_leads cs (over a cs ++ rest) h u ss))

    module _ (c : ℕ) (rest : List ℕ) (u : ℕ) (ss : List ℕ) (each : Each f (children t c)) where
      abbrev cs : List ℕ
      cs = children t c

      abbrev here : Stand
      here = at (c ∷ rest) u ss

      abbrev a : ℕ
      a = get_or bs u 0

      step-leads : kind t c ≡ 1 → Leads rest here (recorded c (going u ss))
      unfolding recorded used_at
      step-leads e = go (ltb (length ss) most_steps) refl
        where
          go : (b : Bool) → ltb (length ss) most_steps ≡ b → Leads rest here (recorded c (going u ss))
          go true q = rw (q, recorded) (on (then (records e (ltb-true (length ss) most_steps q)) stay))
          go false q = rw (q, recorded) (off {q = here} tt stay (no_room e (ltb-false (length ss) most_steps q)))

      -- a byte is taken, where one is left
      byte-leads : (g : ℕ → Drill → Drill) → Takes (kind t c) → (Byte t bs u a → Leads rest here (g a (going (suc u) ss))) → Leads rest here (taken bs g (going u ss))
      unfolding taken used_at
      byte-leads g k h = go (ltb u (length bs)) refl
        where
          go : (b : Bool) → ltb u (length bs) ≡ b → Leads rest here (taken bs g (going u ss))
          go true q = rw (q, taken) (h (record { left = ltb-true u (length bs) q; is = refl }))
          go false q = rw (q, taken) (off {q = here} tt stay (none_left k (ltb-false u (length bs) q)))

      choice_leads : kind t c ≡ 4 → Byte t bs u a → Leads rest here (chosen f cs a (going (suc u) ss))
      unfolding chosen used_at
      choice_leads e b = go (ltb a (length cs)) refl
        where
          go : (x : Bool) → ltb a (length cs) ≡ x → Leads rest here (chosen f cs a (going (suc u) ss))
          go true q =
              let s = at_get_or cs a 0 (ltb-true a (length cs) q) in
              rw (q, chosen) (after (then (chooses a (get_or cs a 0) e b s) stay) (each a (get_or cs a 0) s rest (suc u) ss))
          go false q = rw (q, chosen) (off {q = here} tt stay (no_branch a e b (ltb-false a (length cs) q)))

      wait_leads : kind t c ≡ 5 → (x : ℕ) → Byte t bs u x → Leads rest here (waited f cs x (going (suc u) ss))
      unfolding waited used_at
      wait_leads e zero b = on (then (goes_on e b) stay)
      wait_leads e (suc zero) b = after (then (does_it e b) stay) (order_leads cs rest each (suc u) ss)
      wait_leads e (suc (suc x)) b = off {q = here} tt stay (above_one (suc (suc x)) e b (omega arith))

      -- whatever its kind
      kind-leads : (k : ℕ) → kind t c ≡ k → T (allows k (length cs)) → Leads rest here (by_kind bs f k c cs (going u ss))
      unfolding by_kind
      kind-leads zero e h = absurd (no_kind (length cs) h)
      kind-leads (suc zero) e h = step-leads e
      kind-leads (suc (suc zero)) e h = after (then (runs e) stay) (order_leads cs rest each u ss)
      kind-leads (suc (suc (suc zero))) e h =
          byte-leads (λ x. times x (in_order f cs)) (omega (arith, e)) (λ b. after (then (repeats a e b) stay) (times-leads cs rest each a (suc u) ss))
      kind-leads (suc (suc (suc (suc zero)))) e h = byte-leads (chosen f cs) (omega (arith, e)) (choice_leads e)
      kind-leads (suc (suc (suc (suc (suc zero))))) e h = byte-leads (waited f cs) (omega (arith, e)) (wait_leads e a)
      kind-leads (suc (suc (suc (suc (suc (suc k)))))) e h = absurd (no-kind-more k (length cs) h)

  module _ (fit : Fit t) where
    leads : (n c : ℕ) → Is t c → most_level < level t c + n → (rest : List ℕ) (u : ℕ) (ss : List ℕ) → Leads rest (at (c ∷ rest) u ss) (does t bs n c (going u ss))
    unfolding does
    leads zero c i l rest u ss = absurd (omega (arith, fit.not_too_low c i))
    leads (suc n) c i l rest u ss =
        kind-leads n c rest u ss (λ j s h. leads n s (child-read t c j s h).is (omega (arith, level-child t fit.sound c j s h))) (kind t c) refl (fit.family c i)

    -- the end of the drill is reached
    pub end-found : Ends t bs (drill_of t bs).outcome
    unfolding drill_of
    end-found = go (drill_of t bs) (leads (suc most_level) 0 fit.some_cell (omega arith) [] 0 [])
      where
        go : (e : Drill) → Leads [] (at (0 ∷ []) 0 []) e → Ends t bs e.outcome
        go _ (on {u = v} {ss = vs} w) = record { stand = at [] v vs; reached = w; stops = all_done }
        go _ (off {o = o} {q = q} g w s) = record { stand = q; reached = w; stops = s }

    -- ---- from the moves to the definition: what is still to do, done in order, stays the same
    abbrev pub F : ℕ → Drill → Drill
    F = doing t bs

    -- the end that a stand leads to
    abbrev pub due : Stand → Drill
    due p = in_order F p.todo (going p.used p.steps)

    abbrev pub Cells : List ℕ → Type 0
    Cells [] = Unit {0}
    Cells (c ∷ cs) = Is t c × Cells cs

    cells-append : (xs ys : List ℕ) → Cells xs → Cells ys → Cells (xs ++ ys)
    cells-append [] ys h g = g
    cells-append (x ∷ xs) ys h g = (h.0, cells-append xs ys h.1 g)

    cells_over : (a : ℕ) (cs : List ℕ) → Cells cs → Cells (over a cs)
    unfolding over
    cells_over zero cs h = tt
    cells_over (suc a) cs h = cells-append cs (over a cs) h (cells_over a cs h)

    cells_at : (l : List ℕ) → ((i s : ℕ) → At l i s → Is t s) → Cells l
    cells_at [] h = tt
    cells_at (x ∷ l) h = (h 0 x refl, cells_at l (λ i. h (suc i)))

    cells-children : (c : ℕ) → Cells (children t c)
    cells-children c = cells_at (children t c) (λ i s h. (child-read t c i s h).is)

    times-over : (a : ℕ) (cs : List ℕ) (d : Drill) → times a (in_order F cs) d ≡ in_order F (over a cs) d
    unfolding times over in_order
    times-over zero cs d = refl
    times-over (suc a) cs d = times-over a cs (in_order F cs d) ∙ sym (in_order-append F cs (over a cs) d)

    module _ (c : ℕ) (is : Is t c) (u : ℕ) (ss : List ℕ) where
      abbrev sons : List ℕ
      sons = children t c

      -- the cell does what its kind says
      kind-does : (k : ℕ) → kind t c ≡ k → F c (going u ss) ≡ by_kind bs F k c sons (going u ss)
      kind-does k e = doing-is t fit bs c is (going u ss) ∙ ap (λ (x : ℕ). by_kind bs F x c sons (going u ss)) e

      taken-byte : (g : ℕ → Drill → Drill) (a : ℕ) → Byte t bs u a → taken bs g (going u ss) ≡ g a (going (suc u) ss)
      unfolding taken
      taken-byte g a b = rw (lt-ltb u (length bs) b.left, taken, b.is)

      taken_none : (g : ℕ → Drill → Drill) → length bs ≤ u → taken bs g (going u ss) ≡ ended spent (going u ss)
      unfolding taken
      taken_none g l = rw (le-ltb u (length bs) l, taken)

      records_is : kind t c ≡ 1 → length ss < most_steps → F c (going u ss) ≡ going u (ss ++ c ∷ [])
      unfolding by_kind recorded
      records_is e l = kind-does 1 e ∙ rw (lt-ltb (length ss) most_steps l, recorded)

      full_is : kind t c ≡ 1 → most_steps ≤ length ss → F c (going u ss) ≡ ended full (going u ss)
      unfolding by_kind recorded
      full_is e l = kind-does 1 e ∙ rw (le-ltb (length ss) most_steps l, recorded)

      runs-is : kind t c ≡ 2 → F c (going u ss) ≡ in_order F sons (going u ss)
      unfolding by_kind
      runs-is e = kind-does 2 e

      repeats-is : (a : ℕ) → kind t c ≡ 3 → Byte t bs u a → F c (going u ss) ≡ in_order F (over a sons) (going (suc u) ss)
      unfolding by_kind
      repeats-is a e b = kind-does 3 e ∙ taken-byte (λ x. times x (in_order F sons)) a b ∙ times-over a sons (going (suc u) ss)

      chooses-is : (a s : ℕ) → kind t c ≡ 4 → Byte t bs u a → At sons a s → F c (going u ss) ≡ F s (going (suc u) ss)
      unfolding by_kind chosen
      chooses-is a s e b h =
          let l = at_less sons a s h in
          let q : get_or sons a 0 ≡ s = at_same sons a (get_or sons a 0) s (at_get_or sons a 0 l) h in
          kind-does 4 e ∙ taken-byte (chosen F sons) a b ∙ rw (lt-ltb a (length sons) l, chosen, q)

      no_branch-is : (a : ℕ) → kind t c ≡ 4 → Byte t bs u a → length sons ≤ a → F c (going u ss) ≡ ended wrong (going (suc u) ss)
      unfolding by_kind chosen
      no_branch-is a e b l = kind-does 4 e ∙ taken-byte (chosen F sons) a b ∙ rw (le-ltb a (length sons) l, chosen)

      waits_is : (a : ℕ) → kind t c ≡ 5 → Byte t bs u a → F c (going u ss) ≡ waited F sons a (going (suc u) ss)
      unfolding by_kind
      waits_is a e b = kind-does 5 e ∙ taken-byte (waited F sons) a b

      above_one-is : (a : ℕ) → kind t c ≡ 5 → Byte t bs u a → 1 < a → F c (going u ss) ≡ ended wrong (going (suc u) ss)
      unfolding waited
      above_one-is zero e b l = absurd (omega arith)
      above_one-is (suc zero) e b l = absurd (omega arith)
      above_one-is (suc (suc a)) e b l = waits_is (suc (suc a)) e b

      spent-is : Takes (kind t c) → length bs ≤ u → F c (going u ss) ≡ ended spent (going u ss)
      spent-is k l = go (kind t c) refl k
        where
          go : (k : ℕ) → kind t c ≡ k → Takes k → F c (going u ss) ≡ ended spent (going u ss)
          go zero e h = absurd (omega arith)
          go (suc zero) e h = absurd (omega arith)
          go (suc (suc zero)) e h = absurd (omega arith)
          go (suc (suc (suc zero))) e h = unfold by_kind in (kind-does 3 e ∙ taken_none (λ x. times x (in_order F sons)) l)
          go (suc (suc (suc (suc zero)))) e h = unfold by_kind in (kind-does 4 e ∙ taken_none (chosen F sons) l)
          go (suc (suc (suc (suc (suc zero))))) e h = unfold by_kind in (kind-does 5 e ∙ taken_none (waited F sons) l)
          go (suc (suc (suc (suc (suc (suc k)))))) e h = absurd (omega arith)

    -- what a move keeps
    pub record Kept (p q : Stand) : Type 0 where
      pub same : due p ≡ due q
      pub cells : Cells q.todo

    pub moved : {p q : Stand} → Cells p.todo → Move t bs p q → Kept p q
    unfolding in_order waited
    moved g (records {c = c} {u = u} {cs = cs} {ss = ss} e l) = record { same = ap (in_order F cs) (records_is c g.0 u ss e l); cells = g.1 }
    moved g (runs {c = c} {u = u} {cs = cs} {ss = ss} e) =
        record {
          same = ap (in_order F cs) (runs-is c g.0 u ss e) ∙ sym (in_order-append F (children t c) cs (going u ss));
          cells = cells-append (children t c) cs (cells-children c) g.1;
        }
    moved g (repeats {c = c} {u = u} {cs = cs} {ss = ss} a e b) =
        record {
          same = ap (in_order F cs) (repeats-is c g.0 u ss a e b) ∙ sym (in_order-append F (over a (children t c)) cs (going (suc u) ss));
          cells = cells-append (over a (children t c)) cs (cells_over a (children t c) (cells-children c)) g.1;
        }
    moved g (chooses {c = c} {u = u} {cs = cs} {ss = ss} a s e b h) =
        record { same = ap (in_order F cs) (chooses-is c g.0 u ss a s e b h); cells = ((child-read t c a s h).is, g.1) }
    moved g (goes_on {c = c} {u = u} {cs = cs} {ss = ss} e b) = record { same = ap (in_order F cs) (waits_is c g.0 u ss 0 e b); cells = g.1 }
    moved g (does_it {c = c} {u = u} {cs = cs} {ss = ss} e b) =
        record {
          same = ap (in_order F cs) (waits_is c g.0 u ss 1 e b) ∙ sym (in_order-append F (children t c) cs (going (suc u) ss));
          cells = cells-append (children t c) cs (cells-children c) g.1;
        }

    kept : {p q : Stand} → Cells p.todo → Reach t bs p q → Kept p q
    kept g stay = record { same = refl; cells = g }
    kept g (then m w) =
        let a = moved g m in
        let b = kept a.cells w in
        record { same = a.same ∙ b.same; cells = b.cells }

    -- nothing is done where a drill stops
    halts : {o : Outcome} {p : Stand} → Cells p.todo → Stops t bs o p → due p ≡ stopped o p
    unfolding in_order used_at
    halts g all_done = refl
    halts g (none_left {c = c} {u = u} {cs = cs} {ss = ss} k l) = ap (in_order F cs) (spent-is c g.0 u ss k l) ∙ order_ended t bs (suc most_level) cs (ended spent (going u ss)) tt
    halts g (no_branch {c = c} {u = u} {cs = cs} {ss = ss} a e b l) = ap (in_order F cs) (no_branch-is c g.0 u ss a e b l) ∙ order_ended t bs (suc most_level) cs (ended wrong (going (suc u) ss)) tt
    halts g (above_one {c = c} {u = u} {cs = cs} {ss = ss} a e b l) = ap (in_order F cs) (above_one-is c g.0 u ss a e b l) ∙ order_ended t bs (suc most_level) cs (ended wrong (going (suc u) ss)) tt
    halts g (no_room {c = c} {u = u} {cs = cs} {ss = ss} e l) = ap (in_order F cs) (full_is c g.0 u ss e l) ∙ order_ended t bs (suc most_level) cs (ended full (going u ss)) tt

    -- where the moves stop, there the drill ends
    pub ends_there : {o : Outcome} {p : Stand} → Reached t bs p → Stops t bs o p → drill_of t bs ≡ stopped o p
    unfolding drill_of in_order
    ends_there w s = let k = kept (fit.some_cell, tt) w in k.same ∙ halts k.cells s

    -- THE FOUR OUTCOMES
    pub ends_exactly : (o : Outcome) → ((drill_of t bs).outcome ≡ o) ↔ Ends t bs o
    ends_exactly o = ((λ e. subst (Ends t bs) e end-found), λ h. ap (λ (d : Drill). d.outcome) (ends_there h.reached h.stops))
