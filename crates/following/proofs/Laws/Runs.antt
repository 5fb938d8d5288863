-- The machine does the drill: at every turn, what the open cells still have to do, done in order, gives the drill's end; and the turns come to an end.
-- Assumes nothing.
use Rattle.std.specs.Prelude.{◌≡◌, ◌⊎◌, Bool, replicate, T}
use Rattle.std.proofs.Math.Path.{refl, ap, sym, subst}
use Rattle.std.proofs.Common.{◌∙◌, inr, add-one}
use Rattle.std.proofs.Math.Logic.{inl}
use mathlib.Core.List.{List, [], ◌∷◌, ◌++◌}
use Rattle.std.proofs.Math.Bool.{true, false}
use Prim.Native.Nat.{ℕ, zero, suc, ◌+◌, ◌-◌, ◌*◌, ◌≤◌, ◌<◌}
use native.Mathlib.Omega.{arith}
use Rattle.std.proofs.Math.Decide.{dec_lt}
use Rattle.std.proofs.Math.Nat.{zero-add}
use Rattle.std.proofs.Math.ListN.{length, get_or, length-append, get_or-eq_default}
use Rattle.std.proofs.Math.Dec.{eqb, ltb}
use borrow.Author.Tests.{ne_eqb, lt-ltb, le-ltb, ltb-true}
use Rattle.plan.specs.Limits.{most_steps}
use Rattle.plan.specs.Lists.{At}
use Rattle.plan.proofs.Laws.Lists.{at_get_or, at_same, at_less}
use Rattle.plan.specs.Plan.{Table, Is, kind, children, level}
use Rattle.plan.proofs.Laws.Plan.{child-read}
use Rattle.plan.proofs.Laws.Trees.{level-child}
use Rattle.plan.specs.Kinds.{allows}
use Rattle.plan.specs.Fit.{Fit}
use Rattle.links.specs.Links.{Links, link}
use Rattle.following_cell.specs.declared.Opened.{Opened}
use Rattle.following_cell.specs.declared.Halt.TheVariants.{Going, Spent, Wrong}
use Rattle.following_cell.specs.declared.Todo.{Todo}
use Rattle.moves.specs.Drill.{Outcome, finished, spent, wrong, full, Drill, ended, recorded, taken, in_order, times, chosen, waited, by_kind, does, doing}
use Rattle.moves.proofs.Laws.Drill.{doing-is, in_order-append, no_kind, no-kind-more, run-children, repeat_children, wait_children}
use Rattle.following_cell.specs.Opening.{nothing, once, after, hops, repeated, picked, waiting, answered, opened}
use Rattle.following_turn.specs.Machine.{Frame, frame, State, outcome_of, passed, enter, step_at, step_on, step}
use Rattle.following_cell.proofs.Laws.Siblings.{hops_are}

-- ---- cells done in order
module _ (f : ℕ → Drill → Drill) where
  times_order : (a m : ℕ) (d : Drill) → times a (in_order f (m ∷ [])) d ≡ in_order f (replicate a m) d
  unfolding times in_order
  times_order zero m d = refl
  times_order (suc a) m d = times_order a m (f m d)

-- ---- what a byte makes of a repeat, a choice, a wait
module _ (ls : List ℕ) (s v : ℕ) where
  repeat_none : answered ls s 3 0 v ≡ nothing Going v
  unfolding answered repeated
  repeat_none = refl

  repeat_some : (b : ℕ) → answered ls s 3 (suc b) v ≡ record { next = link ls s 0; times = suc b; halt = Going; used = v }
  unfolding answered repeated
  repeat_some b = rw (ne_eqb (suc b) 0 (λ q. omega arith), repeated)

  pick_some : (b n : ℕ) → hops ls (link ls s 0) b ≡ n → 1 ≤ n → answered ls s 4 b v ≡ once n v
  unfolding answered picked
  pick_some b n e l = ap (λ (x : ℕ). picked x v) e ∙ rw (ne_eqb n 0 (λ q. omega arith), picked)

  pick_none : (b : ℕ) → hops ls (link ls s 0) b ≡ 0 → answered ls s 4 b v ≡ nothing Wrong v
  unfolding answered picked
  pick_none b e = rw (e, picked)

  wait_none : answered ls s 5 0 v ≡ nothing Going v
  unfolding answered waiting
  wait_none = refl

  wait_one : answered ls s 5 1 v ≡ once (link ls s 0) v
  unfolding answered waiting
  wait_one = refl

  wait_wrong : (b : ℕ) → answered ls s 5 (suc (suc b)) v ≡ nothing Wrong v
  unfolding answered waiting
  wait_wrong b = rw (ne_eqb (suc (suc b)) 0 (λ q. omega arith), ne_eqb (suc (suc b)) 1 (λ q. omega arith), waiting)

-- ---- what is left to spend: the answers, the records, and the end itself
abbrev going : Outcome → ℕ
going finished = 200
going spent = 0
going wrong = 0
going full = 0

unfoldable pub purse : List ℕ → Drill → ℕ
purse bs d = going d.outcome + 100 * ((length bs - d.used) + (most_steps - length d.steps))

-- pops, then pushes: at most 32 each between two that spend
abbrev pub phase : List Frame → ℕ
phase [] = 33
phase (f ∷ fs) = elim f.next [ zero ↦ 34 + length fs | suc n ↦ 31 - length fs ]

unfoldable pub weight : List ℕ → State → ℕ
weight bs st = purse bs st.drill + phase st.stack

module _ (t : Table) (fit : Fit t) (ls ks bs : List ℕ) (links : Links t ls) (kind_of : (c : ℕ) → Is t c → get_or ks c 0 ≡ kind t c) where
  abbrev F : ℕ → Drill → Drill
  F = doing t bs

  abbrev at : ℕ → List ℕ → Drill
  at u ss = record { outcome = finished; used = u; steps = ss }

  -- the cells ys are what the open cell c, with next child n so many times, has still to do
  abbrev pub Does : (c n k : ℕ) → List ℕ → Type 0
  Does c n k [] = n ≡ 0
  Does c n k (m ∷ ms) = (m ≡ n) × ((i : ℕ) × At (children t c) i n) × Does c (after ls (get_or ks c 0) n k).next (after ls (get_or ks c 0) n k).times ms

  after_run : (c m n : ℕ) → get_or ks c 0 ≡ 2 → link ls m 1 ≡ n → after ls (get_or ks c 0) m 1 ≡ record { next = n; times = 1 }
  unfolding after
  after_run c m n e en = rw (e, en, after)

  after-once : (c m : ℕ) → (get_or ks c 0 ≡ 2 → ⊥) → after ls (get_or ks c 0) m 1 ≡ record { next = 0; times = 0 }
  unfolding after
  after-once c m z = rw (ne_eqb (get_or ks c 0) 2 z, after)

  after_again : (c m k : ℕ) → after ls (get_or ks c 0) m (suc (suc k)) ≡ record { next = m; times = suc k }
  unfolding after
  after_again c m k =
      let e : suc (suc k) - 1 ≡ suc k = omega arith in
      rw (lt-ltb 1 (suc (suc k)) (omega arith), after) (rw e)

  once-does : (c m i : ℕ) → (get_or ks c 0 ≡ 2 → ⊥) → At (children t c) i m → Does c m 1 (m ∷ [])
  once-does c m i z a = (refl, (i, a), ap (λ (x : Todo). x.next) (after-once c m z))

  again_does : (c m : ℕ) → (get_or ks c 0 ≡ 2 → ⊥) → At (children t c) 0 m → (k : ℕ) → Does c m (suc k) (replicate (suc k) m)
  again_does c m z a zero = once-does c m 0 z a
  again_does c m z a (suc k) = (refl, (0, a), subst (λ (x : Todo). Does c x.next x.times (replicate (suc k) m)) (sym (after_again c m k)) (again_does c m z a k))

  run-does : (c : ℕ) → get_or ks c 0 ≡ 2 → (cs : List ℕ) (o : ℕ) → ((i s : ℕ) → At cs i s → At (children t c) (o + i) s) → o + length cs ≡ length (children t c) → Does c (get_or cs 0 0) 1 cs
  run-does c e [] o h z = refl
  run-does c e (m ∷ ms) o h z =
      let q : o + 0 ≡ o = omega arith in
      let a : At (children t c) o m = rw q at (h 0 m refl) in (
        refl,
        (o, a),
        subst (λ (x : Todo). Does c x.next x.times ms) (sym (after_run c m (get_or ms 0 0) e (links.next c o m a ∙ first ms h z)))
            (run-does c e ms (suc o) (λ i s p. let y : o + suc i ≡ suc o + i = omega arith in rw y at (h (suc i) s p)) (omega arith)),
      )
    where
      first : (ms : List ℕ) → ((i s : ℕ) → At (m ∷ ms) i s → At (children t c) (o + i) s) → o + suc (length ms) ≡ length (children t c) → get_or (children t c) (suc o) 0 ≡ get_or ms 0 0
      first [] h z = get_or-eq_default (children t c) 0 {n = suc o} (omega arith)
      first (s ∷ ss) h z =
          let y : o + 1 ≡ suc o = omega arith in
          let b : At (children t c) (suc o) s = rw y at (h 1 s refl) in
          at_same (children t c) (suc o) (get_or (children t c) (suc o) 0) s (at_get_or (children t c) (suc o) 0 (at_less (children t c) (suc o) s b)) b

  -- ---- a cell is opened: what it has then to do, done in order, is what the cell does; and something is spent, or a child comes next
  pub record Opens (s : ℕ) (fs : List Frame) (d : Drill) (st : State) : Type 0 where
    pub next : ℕ
    pub times : ℕ
    pub stack : st.stack ≡ frame s next times ∷ fs
    pub todo : List ℕ
    pub todos : Does s next times todo
    pub same : in_order F todo st.drill ≡ F s d
    pub cost : (purse bs st.drill + 100 ≤ purse bs d) ⊎ ((purse bs st.drill ≡ purse bs d) × (0 < next))

  children-one : (s : ℕ) → length (children t s) ≡ 1 → children t s ≡ get_or (children t s) 0 0 ∷ []
  children-one s e = go (children t s) e
    where
      go : (l : List ℕ) → length l ≡ 1 → l ≡ get_or l 0 0 ∷ []
      go [] e = absurd (omega arith)
      go (x ∷ []) e = refl
      go (x ∷ y ∷ l) e = absurd (omega arith)

  module _ (s : ℕ) (is : Is t s) (fs : List Frame) (u : ℕ) (ss : List ℕ) where
    abbrev d : Drill
    d = at u ss

    abbrev cs : List ℕ
    cs = children t s

    abbrev d' : Drill
    d' = at (suc u) ss

    -- the cell does what its kind says
    kind-does : (k : ℕ) → get_or ks s 0 ≡ k → F s d ≡ by_kind bs F k s cs d
    kind-does k e = doing-is t fit bs s is d ∙ ap (λ (x : ℕ). by_kind bs F x s cs d) (sym (kind_of s is) ∙ e)

    step_opens : get_or ks s 0 ≡ 1 → Opens s fs d (enter ls ks bs s fs d)
    unfolding enter recorded in_order by_kind purse
    step_opens e = rw (e, enter) (record {
      next = 0;
      times = 0;
      stack = refl;
      todo = [];
      todos = refl;
      same = sym (kind-does 1 e);
      cost = inl (go (ltb (length ss) most_steps) refl);
    })
      where
        go : (b : Bool) → ltb (length ss) most_steps ≡ b → purse bs (recorded s d) + 100 ≤ purse bs d
        go true q = rw (q, recorded) (simp length-append (omega (arith, ltb-true (length ss) most_steps q)))
        go false q = rw (q, recorded) (omega arith)

    abbrev made : Opened → Drill
    made o = record { outcome = outcome_of o.halt; used = o.used; steps = ss }

    -- any other cell
    opens : (k : ℕ) (o : Opened) → get_or ks s 0 ≡ k → (k ≡ 1 → ⊥) → opened ls bs s k u ≡ o → (todo : List ℕ) → Does s o.next o.times todo → in_order F todo (made o) ≡ by_kind bs F k s cs d
        → (purse bs (made o) + 100 ≤ purse bs d) ⊎ ((purse bs (made o) ≡ purse bs d) × (0 < o.next)) → Opens s fs d (enter ls ks bs s fs d)
    unfolding enter
    opens k o e z eo todo does same cost =
        let z' : eqb (get_or ks s 0) 1 ≡ false = ne_eqb (get_or ks s 0) 1 (λ q. z (sym e ∙ q)) in
        rw (z', enter, e, eo)
        (record { next = o.next; times = o.times; stack = refl; todo = todo; todos = does; same = same ∙ sym (kind-does k e); cost = cost })

    run_opens : get_or ks s 0 ≡ 2 → 1 ≤ length cs → Opens s fs d (enter ls ks bs s fs d)
    unfolding opened outcome_of by_kind
    run_opens e l =
        opens 2 (once (link ls s 0) u) e (λ q. omega arith) refl cs
        (rw (links.first s is) (run-does s e cs 0 (λ i x h. rw zero-add h) (omega arith))) refl
        (inr (refl, rw (links.first s is) (child-read t s 0 _ (at_get_or cs 0 0 (omega arith))).low))

    -- a byte is taken
    spent_cost : length bs ≤ u → purse bs (ended spent d) + 100 ≤ purse bs d
    unfolding purse
    spent_cost l = omega arith

    byte_cost : (o : Outcome) → u < length bs → purse bs (ended o d') + 100 ≤ purse bs d
    unfolding purse
    byte_cost finished l = omega arith
    byte_cost spent l = omega arith
    byte_cost wrong l = omega arith
    byte_cost full l = omega arith

    opened-none : (k : ℕ) → (k ≡ 2 → ⊥) → length bs ≤ u → opened ls bs s k u ≡ nothing Spent u
    unfolding opened
    opened-none k z l = rw (ne_eqb k 2 z, le-ltb u (length bs) l, opened)

    opened_some : (k : ℕ) → (k ≡ 2 → ⊥) → u < length bs → opened ls bs s k u ≡ answered ls s k (get_or bs u 0) (suc u)
    unfolding opened
    opened_some k z l = rw (ne_eqb k 2 z, lt-ltb u (length bs) l, opened, add-one)

    taken_none : (f : ℕ → Drill → Drill) → length bs ≤ u → taken bs f d ≡ ended spent d
    unfolding taken
    taken_none f l = rw (le-ltb u (length bs) l, taken)

    taken-some : (f : ℕ → Drill → Drill) → u < length bs → taken bs f d ≡ f (get_or bs u 0) d'
    unfolding taken
    taken-some f l = rw (lt-ltb u (length bs) l, taken)

    abbrev a : ℕ
    a = get_or bs u 0

    -- a repeat, a choice or a wait, with f its reading of the byte
    module _ (k : ℕ) (e : get_or ks s 0 ≡ k) (z : (k ≡ 1 → ⊥) × (k ≡ 2 → ⊥)) (f : ℕ → Drill → Drill) (ef : by_kind bs F k s cs d ≡ taken bs f d) where
      none_opens : length bs ≤ u → Opens s fs d (enter ls ks bs s fs d)
      unfolding in_order outcome_of
      none_opens l = opens k (nothing Spent u) e z.0 (opened-none k z.1 l) [] refl (sym (ef ∙ taken_none f l)) (inl (spent_cost l))

      some_opens : u < length bs → (o : Opened) (c : Outcome) → answered ls s k a (suc u) ≡ o → made o ≡ ended c d' → (todo : List ℕ) → Does s o.next o.times todo → in_order F todo (ended c d') ≡ f a d'
          → Opens s fs d (enter ls ks bs s fs d)
      some_opens l o c eo em todo does same =
          opens k o e z.0 (opened_some k z.1 l ∙ eo) todo does (ap (in_order F todo) em ∙ same ∙ sym (ef ∙ taken-some f l))
          (inl (subst (λ (x : Drill). purse bs x + 100 ≤ purse bs d) (sym em) (byte_cost c l)))

      byte_opens : (u < length bs → Opens s fs d (enter ls ks bs s fs d)) → Opens s fs d (enter ls ks bs s fs d)
      byte_opens g = elim (dec_lt u (length bs)) [ yes l ↦ g l | no l ↦ none_opens (omega arith) ]

    repeat_opens : get_or ks s 0 ≡ 3 → length cs ≡ 1 → Opens s fs d (enter ls ks bs s fs d)
    unfolding by_kind times in_order outcome_of
    repeat_opens e one = byte_opens 3 e ((λ q. omega arith), λ q. omega arith) f refl (λ l. go l a refl)
      where
        f : ℕ → Drill → Drill
        f n = times n (in_order F cs)

        go : u < length bs → (b : ℕ) → a ≡ b → Opens s fs d (enter ls ks bs s fs d)
        go l zero q =
            some_opens 3 e ((λ q. omega arith), λ q. omega arith) f refl l (nothing Going (suc u)) finished (ap (λ (x : ℕ). answered ls s 3 x (suc u)) q ∙ repeat_none ls s (suc u)) refl [] refl
            (sym (ap (λ (x : ℕ). times x (in_order F cs) d') q))
        go l (suc b) q =
            some_opens 3 e ((λ q. omega arith), λ q. omega arith) f refl l (record { next = link ls s 0; times = suc b; halt = Going; used = suc u }) finished
            (ap (λ (x : ℕ). answered ls s 3 x (suc u)) q ∙ repeat_some ls s (suc u) b) refl (replicate (suc b) (get_or cs 0 0))
            (rw (links.first s is) (again_does s (get_or cs 0 0) (λ q. omega arith) (at_get_or cs 0 0 (omega arith)) b))
            (sym (ap (λ (x : ℕ). times x (in_order F cs) d') q ∙ ap (λ (x : List ℕ). times (suc b) (in_order F x) d') (children-one s one) ∙ times_order F (suc b) (get_or cs 0 0) d'))

    choice_opens : get_or ks s 0 ≡ 4 → Opens s fs d (enter ls ks bs s fs d)
    unfolding by_kind in_order chosen outcome_of
    choice_opens e = byte_opens 4 e ((λ q. omega arith), λ q. omega arith) (chosen F cs) refl (λ l. go l (dec_lt a (length cs)))
      where
        child-is : hops ls (link ls s 0) a ≡ get_or cs a 0
        child-is = rw (links.first s is) (hops_are t fit ls links s a 0 ∙ (let y : 0 + a ≡ a = omega arith in rw y))

        go : u < length bs → Dec (a < length cs) → Opens s fs d (enter ls ks bs s fs d)
        go l (yes p) =
            let b = at_get_or cs a 0 p in
            some_opens 4 e ((λ q. omega arith), λ q. omega arith) (chosen F cs) refl l (once (get_or cs a 0) (suc u)) finished
            (pick_some ls s (suc u) a (get_or cs a 0) child-is (child-read t s a _ b).low) refl (get_or cs a 0 ∷ [])
            (once-does s (get_or cs a 0) a (λ q. omega arith) b) (rw (lt-ltb a (length cs) p, chosen))
        go l (no p) =
            some_opens 4 e ((λ q. omega arith), λ q. omega arith) (chosen F cs) refl l (nothing Wrong (suc u)) wrong
            (pick_none ls s (suc u) a (child-is ∙ get_or-eq_default cs 0 {n = a} (omega arith))) refl [] refl (rw (le-ltb a (length cs) (omega arith), chosen))

    wait_does : (l : List ℕ) → l ≡ cs → length l ≤ 1 → (get_or ks s 0 ≡ 2 → ⊥) → Does s (get_or l 0 0) 1 l
    wait_does [] q k z = refl
    wait_does (m ∷ []) q k z = once-does s m 0 z (subst (λ (l : List ℕ). At l 0 m) q refl)
    wait_does (m ∷ n ∷ l) q k z = absurd (omega arith)

    wait_opens : get_or ks s 0 ≡ 5 → length cs ≤ 1 → Opens s fs d (enter ls ks bs s fs d)
    unfolding by_kind in_order waited outcome_of
    wait_opens e few = byte_opens 5 e ((λ q. omega arith), λ q. omega arith) (waited F cs) refl (λ l. go l a refl)
      where
        go : u < length bs → (b : ℕ) → a ≡ b → Opens s fs d (enter ls ks bs s fs d)
        go l zero q =
            some_opens 5 e ((λ q. omega arith), λ q. omega arith) (waited F cs) refl l (nothing Going (suc u)) finished (ap (λ (x : ℕ). answered ls s 5 x (suc u)) q ∙ wait_none ls s (suc u)) refl [] refl
            (sym (ap (λ (x : ℕ). waited F cs x d') q))
        go l (suc zero) q =
            some_opens 5 e ((λ q. omega arith), λ q. omega arith) (waited F cs) refl l (once (link ls s 0) (suc u)) finished (ap (λ (x : ℕ). answered ls s 5 x (suc u)) q ∙ wait_one ls s (suc u)) refl cs
            (rw (links.first s is) (wait_does cs refl few (λ q. omega arith))) (sym (ap (λ (x : ℕ). waited F cs x d') q))
        go l (suc (suc b)) q =
            some_opens 5 e ((λ q. omega arith), λ q. omega arith) (waited F cs) refl l (nothing Wrong (suc u)) wrong (ap (λ (x : ℕ). answered ls s 5 x (suc u)) q ∙ wait_wrong ls s (suc u) b) refl [] refl
            (sym (ap (λ (x : ℕ). waited F cs x d') q))

    -- whatever its kind
    pub opens_all : Opens s fs d (enter ls ks bs s fs d)
    opens_all = go (get_or ks s 0) refl (subst (λ (k : ℕ). T (allows k (length cs))) (sym (kind_of s is)) (fit.family s is))
      where
        go : (k : ℕ) → get_or ks s 0 ≡ k → T (allows k (length cs)) → Opens s fs d (enter ls ks bs s fs d)
        go zero e h = absurd (no_kind (length cs) h)
        go (suc zero) e h = step_opens e
        go (suc (suc zero)) e h = run_opens e (run-children h)
        go (suc (suc (suc zero))) e h = repeat_opens e (repeat_children h)
        go (suc (suc (suc (suc zero)))) e h = choice_opens e
        go (suc (suc (suc (suc (suc zero))))) e h = wait_opens e (wait_children h)
        go (suc (suc (suc (suc (suc (suc k)))))) e h = absurd (no-kind-more k (length cs) h)

  -- ---- the open cells, each with what it has still to do: together the cells xs, in order
  abbrev pub Pends : List Frame → List ℕ → Type 0
  Pends [] xs = xs ≡ []
  Pends (f ∷ fs) xs = Is t f.cell × (level t f.cell ≡ length fs) × (ys : List ℕ) × (zs : List ℕ) × Does f.cell f.next f.times ys × (xs ≡ ys ++ zs) × Pends fs zs

  -- what is left to do, done in order, gives the end
  pub record Keeps (end : Drill) (st : State) : Type 0 where
    pub cells : List ℕ
    pub pends : Pends st.stack cells
    pub same : in_order F cells st.drill ≡ end

  module _ (end : Drill) where
    -- a cell s is opened over the stack fs, which has still xs to do
    module _ (s : ℕ) (is : Is t s) (fs : List Frame) (xs : List ℕ) (u : ℕ) (ss : List ℕ) (lev : level t s ≡ length fs) (pends : Pends fs xs) (same : in_order F (s ∷ xs) (at u ss) ≡ end) where
      abbrev o : Opens s fs (at u ss) (enter ls ks bs s fs (at u ss))
      o = opens_all s is fs u ss

      pub keeps_enter : Keeps end (enter ls ks bs s fs (at u ss))
      unfolding in_order
      keeps_enter =
          record {
            cells = o.todo ++ xs;
            pends = rw o.stack (is, lev, o.todo, xs, o.todos, refl, pends);
            same = in_order-append F o.todo xs (enter ls ks bs s fs (at u ss)).drill ∙ ap (in_order F xs) o.same ∙ same;
          }

      pub enter_less : length fs < 32 → weight bs (enter ls ks bs s fs (at u ss)) < purse bs (at u ss) + (32 - length fs)
      unfolding weight
      enter_less l = rw o.stack (go o.next refl o.cost)
        where
          go : (n : ℕ) → o.next ≡ n → (purse bs (enter ls ks bs s fs (at u ss)).drill + 100 ≤ purse bs (at u ss)) ⊎ ((purse bs (enter ls ks bs s fs (at u ss)).drill ≡ purse bs (at u ss)) × (0 < o.next))
              → purse bs (enter ls ks bs s fs (at u ss)).drill + phase (frame s o.next o.times ∷ fs) < purse bs (at u ss) + (32 - length fs)
          go zero q (inl c) = rw q (omega arith)
          go zero q (inr c) = absurd (omega (arith, c.1))
          go (suc n) q (inl c) = rw q (omega arith)
          go (suc n) q (inr c) = rw q (omega (arith, c.0))

    -- one turn
    module _ (f : Frame) (fs : List Frame) (u : ℕ) (ss : List ℕ) (h : Keeps end (record { stack = f ∷ fs; drill = at u ss })) where
      abbrev is_open : Is t f.cell
      is_open = h.pends.0

      pub few_open : length fs < 32
      few_open = omega (arith, fit.not_too_low f.cell is_open, h.pends.1)

      -- the next child is the first of what the cell has to do
      record Begins (n : ℕ) : Type 0 where
        place : ℕ
        child : At (children t f.cell) place n
        later : List ℕ
        others : List ℕ
        rest : Does f.cell (after ls (get_or ks f.cell 0) n f.times).next (after ls (get_or ks f.cell 0) n f.times).times later
        pends : Pends fs others
        same : in_order F (n ∷ (later ++ others)) (at u ss) ≡ end

      begins : 0 < f.next → Begins f.next
      begins l = go h.pends.2 h.pends.4 h.pends.5
        where
          go : (ys : List ℕ) → Does f.cell f.next f.times ys → h.cells ≡ ys ++ h.pends.3 → Begins f.next
          go [] q e = absurd (omega arith)
          go (m ∷ ms) q e =
              record {
                place = q.1.0;
                child = q.1.1;
                later = ms;
                others = h.pends.3;
                rest = q.2;
                pends = h.pends.6;
                same = ap (λ (x : ℕ). in_order F (x ∷ (ms ++ h.pends.3)) (at u ss)) (sym q.0) ∙ ap (λ (l : List ℕ). in_order F l (at u ss)) (sym e) ∙ h.same;
              }

      pub next-is : 0 < f.next → Is t f.next × (suc (length fs) < 32)
      next-is l =
          let b = begins l in
          let i = (child-read t f.cell b.place f.next b.child).is in
          (i, omega (arith, fit.not_too_low f.next i, level-child t fit.sound f.cell b.place f.next b.child, h.pends.1))

      closes : f.next ≡ 0 → Keeps end (record { stack = fs; drill = at u ss })
      closes z = go h.pends.2 h.pends.4 h.pends.5
        where
          go : (ys : List ℕ) → Does f.cell f.next f.times ys → h.cells ≡ ys ++ h.pends.3 → Keeps end (record { stack = fs; drill = at u ss })
          go [] q e = record { cells = h.pends.3; pends = h.pends.6; same = ap (λ (l : List ℕ). in_order F l (at u ss)) (sym e) ∙ h.same }
          go (m ∷ ms) q e = absurd (omega (arith, (child-read t f.cell q.1.0 f.next q.1.1).low, z))

      -- the stack over which the next child is opened
      module _ (l : 0 < f.next) where
        abbrev b : Begins f.next
        b = begins l

        level-next : level t f.next ≡ length (passed ls ks f ∷ fs)
        level-next = level-child t fit.sound f.cell b.place f.next b.child ∙ ap suc h.pends.1

        pends_next : Pends (passed ls ks f ∷ fs) (b.later ++ b.others)
        unfolding passed
        pends_next = (is_open, h.pends.1, b.later, b.others, b.rest, refl, b.pends)

        opens_next : Keeps end (enter ls ks bs f.next (passed ls ks f ∷ fs) (at u ss))
        opens_next = keeps_enter f.next (next-is l).0 (passed ls ks f ∷ fs) (b.later ++ b.others) u ss level-next pends_next b.same

        opens_less : weight bs (enter ls ks bs f.next (passed ls ks f ∷ fs) (at u ss)) < purse bs (at u ss) + (31 - length fs)
        opens_less =
            omega (
              arith,
              enter_less f.next (next-is l).0 (passed ls ks f ∷ fs) (b.later ++ b.others) u ss level-next pends_next b.same (next-is l).1,
            )

      pub keeps_step : Keeps end (step ls ks bs (record { stack = f ∷ fs; drill = at u ss }))
      unfolding step_on step_at
      keeps_step = go f.next refl
        where
          go : (n : ℕ) → f.next ≡ n → Keeps end (step_at ls ks bs n f fs (at u ss))
          go zero q = closes q
          go (suc n) q = subst (λ (x : ℕ). Keeps end (enter ls ks bs x (passed ls ks f ∷ fs) (at u ss))) q (opens_next (omega arith))

      phase_less : phase fs < 34 + length fs
      phase_less = go fs
        where
          go : (gs : List Frame) → phase gs < 34 + length gs
          go [] = omega arith
          go (g ∷ gs) = on g.next refl
            where
              on : (n : ℕ) → g.next ≡ n → phase (g ∷ gs) < 34 + suc (length gs)
              on zero q = rw q (omega arith)
              on (suc n) q = rw q (omega arith)

      pub step_less : weight bs (step ls ks bs (record { stack = f ∷ fs; drill = at u ss })) < weight bs (record { stack = f ∷ fs; drill = at u ss })
      unfolding step_on step_at weight
      step_less = go f.next refl
        where
          go : (n : ℕ) → f.next ≡ n → weight bs (step_at ls ks bs n f fs (at u ss)) < purse bs (at u ss) + phase (frame f.cell n f.times ∷ fs)
          go zero q = omega (arith, phase_less)
          go (suc n) q = subst (λ (x : ℕ). weight bs (enter ls ks bs x (passed ls ks f ∷ fs) (at u ss)) < purse bs (at u ss) + (31 - length fs)) q (opens_less (omega arith))
