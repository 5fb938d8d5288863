-- Where the walk is at every turn, and which cells it opens, in which order: the proofs behind Visits. Nothing that a reader must believe stands here. Assumes nothing.
use Rattle.std.specs.Prelude.{◌≡◌, ◌⊎◌, length}
use Rattle.std.proofs.Math.Path.{refl, ap, sym}
use Rattle.std.proofs.Common.{◌∙◌, subst}
use Rattle.std.proofs.Math.Logic.{inl, inr}
use mathlib.Core.List.{List, [], ◌∷◌, ◌++◌, append_assoc, append-nil}
use Prim.Native.Nat.{ℕ, zero, suc, ◌+◌, ◌*◌, ◌≤◌, ◌<◌}
use native.Mathlib.Omega.{arith}
use Rattle.std.proofs.Math.Decide.{dec_lt, ℕ_discrete}
use Rattle.std.proofs.Math.ListN.{get_or, get_or-eq_default}
use Rattle.plan.specs.Lists.{At}
use Rattle.plan.proofs.Laws.Lists.{at_get_or, at_less}
use Rattle.plan.specs.Plan.{Table, Is, children, level, Child}
use Rattle.plan.proofs.Laws.Plan.{child-read, child_show}
use Rattle.plan.proofs.Laws.Paths.{Below, below_root, below_split, below-is, below-child, child_less}
use Rattle.plan.proofs.Laws.Trees.{level-child}
use Rattle.plan.specs.Fit.{Fit}
use Rattle.contours.proofs.Laws.Forest.{Forest, none, tree, Grown, grown, forest}
use Rattle.joining.specs.Joining.{Memory, memory_of}
use Rattle.links.specs.Links.{Links, link}
use Rattle.walk.specs.Machine.{Chart, State, step, step_at}
use Rattle.walk.specs.Turns.{stack_of, state_of}
use Rattle.walk.proofs.Laws.Turns.{stack_of-length}
use Rattle.walk.proofs.Laws.Tree.{Tail, tail_all, tail_head, tail_next, tail_first, sum, below-most, out_later}
use Rattle.walk.specs.Preorder.{in_turn, preorder_to, preorder}
use Rattle.walk.specs.Opened.{begin, run, opening, visits, opened, closing, closings, closed_by, StillOpen, OpenCells, Once, EachOnce, InOrder, Visiting, Visited}

-- ---- where the walk is: the stack and the next child, whatever the memory
record Spot : Type 0 where
  stack : List ℕ
  next : ℕ

abbrev spot : List ℕ → ℕ → Spot
spot cs n = record { stack = cs; next = n }

abbrev forget : State → Spot
forget st = spot st.stack st.next

abbrev move_at : List ℕ → ℕ → List ℕ → Spot
move_at ls (suc s) cs = spot (suc s ∷ cs) (link ls (suc s) 0)
move_at ls zero [] = spot [] 0
move_at ls zero (c ∷ []) = spot [] 0
move_at ls zero (c ∷ f ∷ fs) = spot (f ∷ fs) (link ls c 1)

move : List ℕ → Spot → Spot
move ls p = move_at ls p.next p.stack

move-is : (b : Chart) (st : State) → forget (step b st) ≡ move b.links (forget st)
unfolding step move
move-is b st = go st.next st.stack
  where
    go : (n : ℕ) (cs : List ℕ) → forget (step b (record { stack = cs; next = n; memory = st.memory })) ≡ move_at b.links n cs
    go (suc s) cs = refl
    go zero [] = refl
    go zero (c ∷ []) = refl
    go zero (c ∷ f ∷ fs) = refl

moves : List ℕ → ℕ → Spot → Spot
moves ls zero p = p
moves ls (suc n) p = moves ls n (move ls p)

seen : List ℕ → ℕ → Spot → List ℕ
seen ls zero p = []
seen ls (suc n) p = opening p.next ++ seen ls n (move ls p)

module _ (ls : List ℕ) where
  moves_add : (m n : ℕ) (p : Spot) → moves ls (m + n) p ≡ moves ls n (moves ls m p)
  unfolding moves
  moves_add zero n p = let e : 0 + n ≡ n = omega arith in rw e
  moves_add (suc m) n p = let e : suc m + n ≡ suc (m + n) = omega arith in rw e (moves_add m n (move ls p))

  moves_last : (n : ℕ) (p : Spot) → moves ls (suc n) p ≡ move ls (moves ls n p)
  unfolding moves
  moves_last zero p = refl
  moves_last (suc n) p = moves_last n (move ls p)

  seen-add : (m n : ℕ) (p : Spot) → seen ls (m + n) p ≡ seen ls m p ++ seen ls n (moves ls m p)
  unfolding seen moves
  seen-add zero n p = let e : 0 + n ≡ n = omega arith in rw e
  seen-add (suc m) n p =
      let e : suc m + n ≡ suc (m + n) = omega arith in
      rw e (ap (λ (l : List ℕ). opening p.next ++ l) (seen-add m n (move ls p)) ∙ sym (append_assoc (opening p.next) (seen ls m (move ls p)) (seen ls n (moves ls m (move ls p)))))

  seen_last : (n : ℕ) (p : Spot) → seen ls (suc n) p ≡ seen ls n p ++ opening (moves ls n p).next
  unfolding seen moves
  seen_last zero p = append-nil (opening p.next)
  seen_last (suc n) p =
      ap (λ (l : List ℕ). opening p.next ++ l) (seen_last n (move ls p)) ∙ sym (append_assoc (opening p.next) (seen ls n (move ls p)) (opening (moves ls n (move ls p)).next))

run_moves : (b : Chart) (n : ℕ) (st : State) → forget (run b n st) ≡ moves b.links n (forget st)
unfolding run
run_moves b zero st = unfold moves in refl
run_moves b (suc n) st = move-is b (run b n st) ∙ ap (move b.links) (run_moves b n st) ∙ sym (moves_last b.links n (forget st))

visits-seen : (b : Chart) (n : ℕ) (st : State) → visits b n st ≡ seen b.links n (forget st)
unfolding visits
visits-seen b zero st = unfold seen in refl
visits-seen b (suc n) st = cc (visits-seen b n st, ap (λ (p : Spot). p.next) (run_moves b n st), seen_last b.links n (forget st))

-- ---- OPEN CELLS
-- the open cells, the latest first: the root at the bottom, each the parent of the one above it
abbrev pub Chained : Table → List ℕ → Type 0
Chained t [] = Unit {0}
Chained t (c ∷ []) = c ≡ 0
Chained t (c ∷ f ∷ fs) = Child t f c × Chained t (f ∷ fs)

-- the next child is one of the latest open cell's, or 0
abbrev Coming : Table → List ℕ → ℕ → Type 0
Coming t [] n = n ≡ 0
Coming t (c ∷ cs) n = (i : ℕ) × (n ≡ get_or (children t c) i 0)

module _ (t : Table) (fit : Fit t) (ls : List ℕ) (links : Links t ls) where
  record Placed (p : Spot) : Type 0 where
    chained : Chained t p.stack
    coming : Coming t p.stack p.next

  chained-is : (c : ℕ) (cs : List ℕ) → Chained t (c ∷ cs) → Is t c
  chained-is c [] e = rw e fit.some_cell
  chained-is c (f ∷ fs) h = h.0.is

  chained-level : (c : ℕ) (cs : List ℕ) → Chained t (c ∷ cs) → level t c ≡ length cs
  unfolding level
  chained-level c [] e = rw e
  chained-level c (f ∷ fs) h =
      let (i, a) = child_show t f c h.0 in
      level-child t fit.sound f i c a ∙ ap suc (chained-level f fs h.1)

  chained_few : (cs : List ℕ) → Chained t cs → length cs ≤ 32
  chained_few [] h = omega arith
  chained_few (c ∷ cs) h = omega (arith, chained-level c cs h, fit.not_too_low c (chained-is c cs h))

  -- what is coming is a child where it is not 0
  coming_child : (c i s : ℕ) → suc s ≡ get_or (children t c) i 0 → Child t c (suc s)
  coming_child c i s e = go (dec_lt i (length (children t c)))
    where
      go : Dec (i < length (children t c)) → Child t c (suc s)
      go (yes l) = subst (Child t c) (sym e) (child-read t c i _ (at_get_or (children t c) i 0 l))
      go (no l) = absurd (omega (arith, e, get_or-eq_default (children t c) 0 {n = i} (omega arith)))

  placed-move : (p : Spot) → Placed p → Placed (move ls p)
  unfolding move
  placed-move p h = go p.next p.stack h.chained h.coming
    where
      go : (n : ℕ) (cs : List ℕ) → Chained t cs → Coming t cs n → Placed (move_at ls n cs)
      go (suc s) [] k w = absurd (omega (arith, w))
      go (suc s) (c ∷ cs) k w =
          let x = coming_child c w.0 s w.1 in
          record { chained = (x, k); coming = (0, links.first (suc s) x.is) }
      go zero [] k w = record { chained = tt; coming = refl }
      go zero (c ∷ []) k w = record { chained = tt; coming = refl }
      go zero (c ∷ f ∷ fs) k w =
          let (i, a) = child_show t f c k.0 in
          record { chained = k.1; coming = (suc i, links.next f i c a) }

  placed_moves : (n : ℕ) (p : Spot) → Placed p → Placed (moves ls n p)
  unfolding moves
  placed_moves zero p h = h
  placed_moves (suc n) p h = placed_moves n (move ls p) (placed-move p h)

  placed-begin : Placed (spot (0 ∷ []) (link ls 0 0))
  placed-begin = record { chained = refl; coming = (0, links.first 0 fit.some_cell) }

module _ (t : Table) (cells : List ℕ) where
  stack_root : (k : ℕ) → 0 < k → Chained t (stack_of cells k) → get_or cells 0 0 ≡ 0
  unfolding stack_of
  stack_root zero l h = absurd (omega arith)
  stack_root (suc zero) l h = h
  stack_root (suc (suc k)) l h = stack_root (suc k) (omega arith) h.1

  stack_each : (k i : ℕ) → suc i < k → Chained t (stack_of cells k) → Child t (get_or cells i 0) (get_or cells (suc i) 0)
  unfolding stack_of
  stack_each zero i l h = absurd (omega arith)
  stack_each (suc zero) i l h = absurd (omega arith)
  stack_each (suc (suc k)) i l h = elim (ℕ_discrete i k) [ yes q ↦ rw q h.0 | no q ↦ stack_each (suc k) i (omega arith) h.1 ]

module _ (t : Table) (fit : Fit t) (b : Chart) (links : Links t b.links) (m : Memory) where
  abbrev from : ℕ → State
  from n = run b n (begin b m)

  chained-from : (n : ℕ) → Chained t (from n).stack
  chained-from n =
      subst (λ (p : Spot). Chained t p.stack) (sym (run_moves b n (begin b m)))
      (placed_moves t fit b.links links n (forget (begin b m)) (placed-begin t fit b.links links)).chained

-- ---- OPENED ONCE
-- the cells of a forest, each before its children
unfoldable pub listed : Forest → List ℕ
listed none = []
listed (tree c F r) = c ∷ (listed F ++ listed r)

abbrev size : Forest → ℕ
size F = sum (λ x. 1) F

module _ (t : Table) (fit : Fit t) (ls : List ℕ) (links : Links t ls) where
  -- from the open cell f, with its children cs to come, the walk opens them and all below, and is then back at f
  abbrev Tours : List ℕ → Forest → Type 0
  Tours cs F = (f o : ℕ) (stack : List ℕ) → Tail t f o cs
      → (moves ls (2 * size F) (spot (f ∷ stack) (get_or cs 0 0)) ≡ spot (f ∷ stack) 0) × (seen ls (2 * size F) (spot (f ∷ stack) (get_or cs 0 0)) ≡ listed F)

  tours_none : Tours [] none
  unfolding sum moves seen listed
  tours_none f o stack ta = (refl, refl)

  module _ (s : ℕ) (cs : List ℕ) (F r : Forest) (ihs : Tours (children t (suc s)) F) (ihr : Tours cs r) (f o : ℕ) (stack : List ℕ) (ta : Tail t f o (suc s ∷ cs)) where
    abbrev c : ℕ
    c = suc s

    hc : At (children t f) o c
    hc = tail_head t f o c cs ta

    -- the turns: c is opened, its children are toured, c is closed, the later siblings are toured
    abbrev p₁ : Spot
    p₁ = spot (c ∷ f ∷ stack) (get_or (children t c) 0 0)

    abbrev p₂ : Spot
    p₂ = spot (c ∷ f ∷ stack) 0

    abbrev p₃ : Spot
    p₃ = spot (f ∷ stack) (get_or cs 0 0)

    opens : move ls (spot (f ∷ stack) c) ≡ p₁
    unfolding move
    opens = ap (spot (c ∷ f ∷ stack)) (links.first c (child_less t fit.sound f o c hc).1)

    below : (moves ls (2 * size F) p₁ ≡ p₂) × (seen ls (2 * size F) p₁ ≡ listed F)
    below = ihs c 0 (f ∷ stack) (tail_all t c)

    closes : move ls p₂ ≡ p₃
    unfolding move
    closes = ap (spot (f ∷ stack)) (links.next f o c hc ∙ tail_first t f (suc o) cs (tail_next t f o c cs ta))

    later : (moves ls (2 * size r) p₃ ≡ spot (f ∷ stack) 0) × (seen ls (2 * size r) p₃ ≡ listed r)
    later = ihr f (suc o) stack (tail_next t f o c cs ta)

    tours_tree : (moves ls (suc (2 * size F + suc (2 * size r))) (spot (f ∷ stack) c) ≡ spot (f ∷ stack) 0) × (seen ls (suc (2 * size F + suc (2 * size r))) (spot (f ∷ stack) c) ≡ c ∷ (listed F ++ listed r))
    unfolding moves seen
    tours_tree =
        let there : moves ls (2 * size F + suc (2 * size r)) p₁ ≡ spot (f ∷ stack) 0 =
        moves_add ls (2 * size F) (suc (2 * size r)) p₁ ∙ ap (moves ls (suc (2 * size r))) below.0 ∙ ap (moves ls (2 * size r)) closes ∙ later.0 in
        let shut : seen ls (suc (2 * size r)) p₂ ≡ listed r = ap (seen ls (2 * size r)) closes ∙ later.1 in
        let list : seen ls (2 * size F + suc (2 * size r)) p₁ ≡ listed F ++ listed r =
        seen-add ls (2 * size F) (suc (2 * size r)) p₁ ∙ cc (below.0, below.1, shut) in
        (ap (moves ls (2 * size F + suc (2 * size r))) opens ∙ there, ap (λ (l : List ℕ). c ∷ l) (ap (seen ls (2 * size F + suc (2 * size r))) opens ∙ list))

  tours_cons : (c : ℕ) (cs : List ℕ) (F r : Forest) → Tours (children t c) F → Tours cs r → Tours (c ∷ cs) (tree c F r)
  unfolding sum listed
  tours_cons zero cs F r ihs ihr f o stack ta = absurd (omega (arith, (child-read t f o 0 (tail_head t f o 0 cs ta)).low))
  tours_cons (suc s) cs F r ihs ihr f o stack ta =
      let e : 2 * (1 + size F + size r) ≡ suc (2 * size F + suc (2 * size r)) = omega arith in
      rw e (tours_tree s cs F r ihs ihr f o stack ta)

  tours : {cs : List ℕ} {F : Forest} → Grown t cs F → Tours cs F
  tours Grown.nil = tours_none
  tours (Grown.cons {c = c} {cs = cs} {F = F} {r = r} g h) = tours_cons c cs F r (tours g) (tours h)

-- the forest lists the cells in preorder
module _ (t : Table) (fit : Fit t) where
  listed-deep : (d : ℕ) {cs : List ℕ} {F : Forest} → Grown t cs F → ((i s : ℕ) → At cs i s → Is t s × (length t ≤ s + d)) → listed F ≡ in_turn (preorder_to t d) cs
  unfolding listed in_turn preorder_to
  listed-deep d Grown.nil h = refl
  listed-deep zero (Grown.cons {c = c} g k) h = absurd (omega (arith, h 0 c refl))
  listed-deep (suc d) (Grown.cons {c = c} g k) h =
      cc (listed-deep d g (λ i s a. ((child_less t fit.sound c i s a).1, omega (arith, child_less t fit.sound c i s a, h 0 c refl))), listed-deep (suc d) k (λ i. h (suc i)))

  preorder-listed : (c : ℕ) → preorder t c ≡ c ∷ listed (forest t (length t) c)
  preorder-listed c = go (length t) refl
    where
      go : (n : ℕ) → length t ≡ n → preorder t c ≡ c ∷ listed (forest t (length t) c)
      go zero e = absurd (omega (arith, fit.some_cell))
      go (suc d) e =
          ap (λ (x : ℕ). preorder_to t x c) e
          ∙ (unfold preorder_to in ap (λ (l : List ℕ). c ∷ l) (sym (listed-deep d (grown t fit.sound c) (λ j s a. ((child_less t fit.sound c j s a).1, omega (arith, child_less t fit.sound c j s a))))))

  -- the cell c, then the preorders of its children, one after another
  pub preorder-is : (c : ℕ) → preorder t c ≡ c ∷ in_turn (preorder t) (children t c)
  preorder-is c =
      preorder-listed c ∙ ap (λ (l : List ℕ). c ∷ l) (listed-deep (length t) (grown t fit.sound c) (λ j s a. ((child_less t fit.sound c j s a).1, omega arith)))

module _ (t : Table) (fit : Fit t) (b : Chart) (links : Links t b.links) (m : Memory) where
  abbrev F : Forest
  F = forest t (length t) 0

  -- the turns of the whole walk
  abbrev pub all_turns : ℕ
  all_turns = 2 * size F + 1

  toured : (moves b.links (2 * size F) (forget (begin b m)) ≡ spot (0 ∷ []) 0) × (seen b.links (2 * size F) (forget (begin b m)) ≡ listed F)
  toured = rw (links.first 0 fit.some_cell) (tours t fit b.links links (grown t fit.sound 0) 0 0 [] (tail_all t 0))

  all-opened : opened b m all_turns ≡ preorder t 0
  unfolding seen
  all-opened =
      ap (λ (l : List ℕ). 0 ∷ l)
      (visits-seen b all_turns (begin b m) ∙ seen-add b.links (2 * size F) 1 (forget (begin b m)) ∙ ap (λ (l : List ℕ). l ++ seen b.links 1 (moves b.links (2 * size F) (forget (begin b m)))) toured.1
      ∙ ap (λ (p : Spot). listed F ++ seen b.links 1 p) toured.0 ∙ append-nil (listed F))
      ∙ sym (preorder-listed t fit 0)

  pub ends-closed : (run b all_turns (begin b m)).stack ≡ []
  unfolding moves move
  ends-closed =
      ap (λ (p : Spot). p.stack) (run_moves b all_turns (begin b m) ∙ moves_add b.links (2 * size F) 1 (forget (begin b m)) ∙ ap (moves b.links 1) toured.0)

  -- where no cell is open, no cell is next, and none is opened any more
  idle_seen : (k : ℕ) → seen b.links k (spot [] 0) ≡ []
  unfolding seen move
  idle_seen zero = refl
  idle_seen (suc k) = idle_seen k

  at_rest : (n : ℕ) → (run b n (begin b m)).stack ≡ [] → moves b.links n (forget (begin b m)) ≡ spot [] 0
  at_rest n e = go _ _ (ap (λ (p : Spot). p.stack) (sym (run_moves b n (begin b m))) ∙ e) (placed_moves t fit b.links links n (forget (begin b m)) (placed-begin t fit b.links links)).coming
    where
      go : (cs : List ℕ) (x : ℕ) → cs ≡ [] → Coming t cs x → spot cs x ≡ spot [] 0
      go [] x e w = ap (spot []) w
      go (c ∷ cs) x e w = absurd (omega (arith, ap length e))

  idle : (n k : ℕ) → (run b n (begin b m)).stack ≡ [] → visits b (n + k) (begin b m) ≡ visits b n (begin b m)
  idle n k e =
      visits-seen b (n + k) (begin b m) ∙ seen-add b.links n k (forget (begin b m)) ∙ ap (λ (p : Spot). seen b.links n (forget (begin b m)) ++ seen b.links k p) (at_rest n e)
      ∙ ap (λ (l : List ℕ). seen b.links n (forget (begin b m)) ++ l) (idle_seen k) ∙ append-nil (seen b.links n (forget (begin b m))) ∙ sym (visits-seen b n (begin b m))

  pub opened-in_order : (n : ℕ) → (run b n (begin b m)).stack ≡ [] → opened b m n ≡ preorder t 0
  opened-in_order n e =
      let q : n + all_turns ≡ all_turns + n = omega arith in
      ap (λ (l : List ℕ). 0 ∷ l) (sym (idle n all_turns e) ∙ ap (λ (k : ℕ). visits b k (begin b m)) q ∙ idle all_turns n ends-closed) ∙ all-opened

-- each cell of the table has one place in the preorder, and nothing else has one
at_split : (xs ys : List ℕ) (i x : ℕ) → At (xs ++ ys) i x → At xs i x ⊎ ((j : ℕ) × (i ≡ length xs + j) × At ys j x)
at_split [] ys i x a = inr (i, omega arith, a)
at_split (w ∷ ws) ys zero x a = inl a
at_split (w ∷ ws) ys (suc i) x a = elim (at_split ws ys i x a) [ inl b ↦ inl b | inr c ↦ inr (c.0, omega (arith, c.1), c.2) ]

at_left : (xs ys : List ℕ) (i x : ℕ) → At xs i x → At (xs ++ ys) i x
at_left [] ys i x a = absurd a
at_left (w ∷ ws) ys zero x a = a
at_left (w ∷ ws) ys (suc i) x a = at_left ws ys i x a

at_right : (xs ys : List ℕ) (j x : ℕ) → At ys j x → At (xs ++ ys) (length xs + j) x
at_right [] ys j x a = let e : 0 + j ≡ j = omega arith in rw e a
at_right (w ∷ ws) ys j x a = let e : suc (length ws) + j ≡ suc (length ws + j) = omega arith in rw e (at_right ws ys j x a)

once-append : (xs ys : List ℕ) → Once xs → Once ys → ((i j x : ℕ) → At xs i x → At ys j x → ⊥) → Once (xs ++ ys)
once-append xs ys p q off i j x a b = go (at_split xs ys i x a) (at_split xs ys j x b)
  where
    go : At xs i x ⊎ ((k : ℕ) × (i ≡ length xs + k) × At ys k x) → At xs j x ⊎ ((k : ℕ) × (j ≡ length xs + k) × At ys k x) → i ≡ j
    go (inl u) (inl v) = p i j x u v
    go (inl u) (inr v) = absurd (off i v.0 x u v.2)
    go (inr u) (inl v) = absurd (off j u.0 x v u.2)
    go (inr u) (inr v) = omega (arith, u.1, v.1, q u.0 v.0 x u.2 v.2)

once-cons : (c : ℕ) (xs : List ℕ) → Once xs → ((i : ℕ) → At xs i c → ⊥) → Once (c ∷ xs)
once-cons c xs p off zero zero x a b = refl
once-cons c xs p off zero (suc j) x a b = absurd (off j (rw a at b))
once-cons c xs p off (suc i) zero x a b = absurd (off i (rw b at a))
once-cons c xs p off (suc i) (suc j) x a b = ap suc (p i j x a b)

module _ (t : Table) (fit : Fit t) where
  -- what is listed is at or below one of the siblings
  pub record Under (cs : List ℕ) (x : ℕ) : Type 0 where
    pub place : ℕ
    pub top : ℕ
    pub there : At cs place top
    pub below : Below t x top

  listed-under : {cs : List ℕ} {F : Forest} → Grown t cs F → (i x : ℕ) → At (listed F) i x → Under cs x
  unfolding listed
  listed-under Grown.nil i x a = absurd a
  listed-under (Grown.cons {c = c} {F = F} {r = r} g h) zero x a = record { place = 0; top = c; there = refl; below = rw a Below.here }
  listed-under (Grown.cons {c = c} {cs = cs} {F = F} {r = r} g h) (suc i) x a =
      elim (at_split (listed F) (listed r) i x a) [
        | inl u ↦ let w = listed-under g i x u in record { place = 0; top = c; there = refl; below = Below.down w.place w.top w.there w.below }
        | inr v ↦ let w = listed-under h v.0 x v.2 in record { place = suc w.place; top = w.top; there = w.there; below = w.below }
      ]

  under-listed : {cs : List ℕ} {F : Forest} → Grown t cs F → (i s x : ℕ) → At cs i s → Below t x s → (j : ℕ) × At (listed F) j x
  unfolding listed
  under-listed Grown.nil i s x a w = absurd a
  under-listed (Grown.cons {c = c} {cs = cs} {F = F} {r = r} g h) zero s x a w =
      elim (below_split (rw a at w)) [
        | inl e ↦ (0, e)
        | inr q ↦ let k = under-listed g q.0 q.1 x q.2 q.3 in (suc k.0, at_left (listed F) (listed r) k.0 x k.1)
      ]
  under-listed (Grown.cons {c = c} {cs = cs} {F = F} {r = r} g h) (suc i) s x a w =
      let k = under-listed h i s x a w in
      (suc (length (listed F) + k.0), at_right (listed F) (listed r) k.0 x k.1)

  listed-once : {cs : List ℕ} {F : Forest} → Grown t cs F → (f o : ℕ) → Tail t f o cs → Once (listed F)
  unfolding listed
  listed-once Grown.nil f o ta = λ i j x a b. absurd a
  listed-once (Grown.cons {c = c} {cs = cs} {F = F} {r = r} g h) f o ta =
      once-cons c (listed F ++ listed r)
      (once-append (listed F) (listed r) (listed-once g c 0 (tail_all t c)) (listed-once h f (suc o) (tail_next t f o c cs ta))
      (λ i j x a b. let u = listed-under g i x a in let v = listed-under h j x b in out_later t fit.sound f o c cs ta x v.place v.top v.there v.below (Below.down u.place u.top u.there u.below)))
      (λ i a. elim (at_split (listed F) (listed r) i c a) [
        | inl u ↦ let w = listed-under g i c u in omega (arith, below-most t fit.sound w.below, child_less t fit.sound c w.place w.top w.there)
        | inr v ↦ let w = listed-under h v.0 c v.2 in out_later t fit.sound f o c cs ta c w.place w.top w.there w.below Below.here
      ])

  preorder-once : EachOnce t (preorder t 0)
  preorder-once = rw (preorder-listed t fit 0) (record { found = found; once = once; only = only })
    where
      G : Grown t (children t 0) (forest t (length t) 0)
      G = grown t fit.sound 0

      found : (c : ℕ) → Is t c → (i : ℕ) × At (0 ∷ listed (forest t (length t) 0)) i c
      found c i = elim (below_split (below_root t fit.sound c i)) [ inl e ↦ (0, e) | inr q ↦ let k = under-listed G q.0 q.1 c q.2 q.3 in (suc k.0, k.1) ]

      once : Once (0 ∷ listed (forest t (length t) 0))
      once = once-cons 0 (listed (forest t (length t) 0)) (listed-once G 0 0 (tail_all t 0)) (λ i a.
          let w = listed-under G i 0 a in omega (arith, below-most t fit.sound w.below, child_less t fit.sound 0 w.place w.top w.there))

      only : (i x : ℕ) → At (0 ∷ listed (forest t (length t) 0)) i x → Is t x
      only zero x a = rw a fit.some_cell
      only (suc i) x a = let w = listed-under G i x a in below-is t fit.sound (child_less t fit.sound 0 w.place w.top w.there).1 w.below

-- ---- siblings in order
module _ (t : Table) (fit : Fit t) where
  module _ (f o c : ℕ) (cs : List ℕ) (F r : Forest) (g : Grown t (children t c) F) (h : Grown t cs r) (ta : Tail t f o (c ∷ cs)) where
    down : (x : ℕ) → Under t fit (children t c) x → Below t x c
    down x w = Below.down w.place w.top w.there w.below

    apart : (x : ℕ) → Under t fit cs x → Below t x c → ⊥
    apart x w v = out_later t fit.sound f o c cs ta x w.place w.top w.there w.below v

    -- what is below c is listed right after c, and what is below its later siblings after that
    first : (a x : ℕ) → At (c ∷ (listed F ++ listed r)) a x → Under t fit (children t c) x → (k : ℕ) × (a ≡ suc k) × At (listed F) k x
    first zero x e w = absurd (omega (arith, below-most t fit.sound w.below, child_less t fit.sound c w.place w.top w.there))
    first (suc a) x e w = elim (at_split (listed F) (listed r) a x e) [ inl u ↦ (a, refl, u) | inr v ↦ absurd (apart x (listed-under t fit h v.0 x v.2) (down x w)) ]

    rest : (a x : ℕ) → At (c ∷ (listed F ++ listed r)) a x → Under t fit cs x → (k : ℕ) × (a ≡ suc (length (listed F) + k)) × At (listed r) k x
    rest zero x e w = absurd (apart x w (rw e Below.here))
    rest (suc a) x e w = elim (at_split (listed F) (listed r) a x e) [ inl u ↦ absurd (apart x w (down x (listed-under t fit g a x u))) | inr v ↦ (v.0, ap suc v.1, v.2) ]

    own : (a x : ℕ) → At (c ∷ (listed F ++ listed r)) a x → Below t x c → a ≤ length (listed F)
    own a x e w = elim (below_split w) [ inl q ↦ top a (rw q at e) | inr d ↦ under a e (record { place = d.0; top = d.1; there = d.2; below = d.3 }) ]
      where
        under : (a : ℕ) → At (c ∷ (listed F ++ listed r)) a x → Under t fit (children t c) x → a ≤ length (listed F)
        under a e u = let k = first a x e u in omega (arith, k.1, at_less (listed F) k.0 x k.2)

        top : (a : ℕ) → At (c ∷ (listed F ++ listed r)) a c → a ≤ length (listed F)
        top zero e = omega arith
        top (suc a) e = elim (at_split (listed F) (listed r) a c e) [
          | inl u ↦ omega (arith, at_less (listed F) a c u)
          | inr v ↦ absurd (apart c (listed-under t fit h v.0 c v.2) Below.here)
        ]

  -- what is below a sibling is listed before what is below a later one
  listed_order : {cs : List ℕ} {F : Forest} → Grown t cs F → (f o : ℕ) → Tail t f o cs → (i j p q x y a b : ℕ) → At cs i p → At cs j q → i < j → Below t x p → Below t y q → At (listed F) a x → At (listed F) b y → a < b
  unfolding listed
  listed_order Grown.nil f o ta i j p q x y a b ai aj l u v ax by = absurd ai
  listed_order (Grown.cons {c = c} {cs = cs} {F = F} {r = r} g h) f o ta i zero p q x y a b ai aj l u v ax by = absurd (omega arith)
  listed_order (Grown.cons {c = c} {cs = cs} {F = F} {r = r} g h) f o ta zero (suc j) p q x y a b ai aj l u v ax by =
      let k = rest f o c cs F r g h ta b y by (record { place = j; top = q; there = aj; below = v }) in
      omega (arith, own f o c cs F r g h ta a x ax (rw ai at u), k.1)
  listed_order (Grown.cons {c = c} {cs = cs} {F = F} {r = r} g h) f o ta (suc i) (suc j) p q x y a b ai aj l u v ax by =
      let k = rest f o c cs F r g h ta a x ax (record { place = i; top = p; there = ai; below = u }) in
      let m = rest f o c cs F r g h ta b y by (record { place = j; top = q; there = aj; below = v }) in
      omega (arith, k.1, m.1, listed_order h f (suc o) (tail_next t f o c cs ta) i j p q x y k.0 m.0 ai aj (omega arith) u v k.2 m.2)

  -- the same of the children of any cell e below
  module _ (e i j p q : ℕ) (ai : At (children t e) i p) (aj : At (children t e) j q) (l : i < j) where
    deep_order : {cs : List ℕ} {F : Forest} → Grown t cs F → (f o : ℕ) → Tail t f o cs → (n s a b : ℕ) → At cs n s → Below t e s → At (listed F) a p → At (listed F) b q → a < b
    unfolding listed
    deep_order Grown.nil f o ta n s a b an w ap bq = absurd an
    deep_order (Grown.cons {c = c} {cs = cs} {F = F} {r = r} g h) f o ta zero s a b an w ap bq = go (below_split (rw an at w)) (deep_order g c 0 (tail_all t c))
      where
        -- p and q are below the child of c that e is below, or children of c
        place_of : (x a : ℕ) → At (c ∷ (listed F ++ listed r)) a x → Under t fit (children t c) x → (k : ℕ) × (a ≡ suc k) × At (listed F) k x
        place_of x a ax u = first f o c cs F r g h ta a x ax u

        go : (e ≡ c) ⊎ ((m : ℕ) × (z : ℕ) × At (children t c) m z × Below t e z) → ((m z a b : ℕ) → At (children t c) m z → Below t e z → At (listed F) a p → At (listed F) b q → a < b) → a < b
        go (inl z) ih =
            let ai' : At (children t c) i p = rw z at ai in
            let aj' : At (children t c) j q = rw z at aj in
            let k = place_of p a ap (record { place = i; top = p; there = ai'; below = Below.here }) in
            let m = place_of q b bq (record { place = j; top = q; there = aj'; below = Below.here }) in
            omega (arith, k.1, m.1, listed_order g c 0 (tail_all t c) i j p q p q k.0 m.0 ai' aj' l Below.here Below.here k.2 m.2)
        go (inr d) ih =
            let k = place_of p a ap (record { place = d.0; top = d.1; there = d.2; below = below-child i p ai d.3 }) in
            let m = place_of q b bq (record { place = d.0; top = d.1; there = d.2; below = below-child j q aj d.3 }) in
            omega (arith, k.1, m.1, ih d.0 d.1 k.0 m.0 d.2 d.3 k.2 m.2)
    deep_order (Grown.cons {c = c} {cs = cs} {F = F} {r = r} g h) f o ta (suc n) s a b an w ap bq =
        let k = rest f o c cs F r g h ta a p ap (record { place = n; top = s; there = an; below = below-child i p ai w }) in
        let m = rest f o c cs F r g h ta b q bq (record { place = n; top = s; there = an; below = below-child j q aj w }) in
        omega (arith, k.1, m.1, deep_order h f (suc o) (tail_next t f o c cs ta) n s k.0 m.0 an w k.2 m.2)

    pub siblings_before : Is t e → (a b : ℕ) → At (preorder t 0) a p → At (preorder t 0) b q → a < b
    siblings_before is a b ap bq = go a b (rw (preorder-listed t fit 0) at ap) (rw (preorder-listed t fit 0) at bq) (below_split (below_root t fit.sound e is))
      where
        G : Grown t (children t 0) (forest t (length t) 0)
        G = grown t fit.sound 0

        on : (a b : ℕ) → At (listed (forest t (length t) 0)) a p → At (listed (forest t (length t) 0)) b q → (e ≡ 0) ⊎ ((m : ℕ) × (z : ℕ) × At (children t 0) m z × Below t e z) → a < b
        on a b x y (inl z) = listed_order G 0 0 (tail_all t 0) i j p q p q a b (rw z at ai) (rw z at aj) l Below.here Below.here x y
        on a b x y (inr d) = deep_order G 0 0 (tail_all t 0) d.0 d.1 a b d.2 d.3 x y

        go : (a b : ℕ) → At (0 ∷ listed (forest t (length t) 0)) a p → At (0 ∷ listed (forest t (length t) 0)) b q → (e ≡ 0) ⊎ ((m : ℕ) × (z : ℕ) × At (children t 0) m z × Below t e z) → a < b
        go zero b x y w = absurd (omega (arith, x, (child-read t e i p ai).low))
        go (suc a) zero x y w = absurd (omega (arith, y, (child-read t e j q aj).low))
        go (suc a) (suc b) x y w = let z = on a b x y w in omega arith

-- ---- siblings in order, of the whole preorder
preorder_siblings : (t : Table) → Fit t → InOrder t (preorder t 0)
preorder_siblings t fit f i j p q a b is ai aj l ap bq = siblings_before t fit f i j p q ai aj l is a b ap bq

-- ---- of the cells that the walk opens, once none is open any more
module _ (t : Table) (fit : Fit t) (b : Chart) (links : Links t b.links) (m : Memory) (n : ℕ) (e : (run b n (begin b m)).stack ≡ []) where
  pub opened-once : EachOnce t (opened b m n)
  opened-once = subst (EachOnce t) (sym (opened-in_order t fit b links m n e)) (preorder-once t fit)

  pub siblings_in_order : InOrder t (opened b m n)
  siblings_in_order = subst (λ (l : List ℕ). InOrder t l) (sym (opened-in_order t fit b links m n e)) (preorder_siblings t fit)

-- ---- OPEN CELLS: opened and not yet closed
-- how often x stands in the list
abbrev hit_of : {x y : ℕ} → Dec (x ≡ y) → ℕ
hit_of (yes e) = 1
hit_of (no e) = 0

hit : ℕ → ℕ → ℕ
hit x y = hit_of (ℕ_discrete x y)

times : ℕ → List ℕ → ℕ
times x [] = 0
times x (y ∷ l) = hit x y + times x l

hit_same : (x y : ℕ) → x ≡ y → hit x y ≡ 1
unfolding hit
hit_same x y e = go (ℕ_discrete x y)
  where
    go : (d : Dec (x ≡ y)) → hit_of d ≡ 1
    go (yes q) = refl
    go (no q) = absurd (q e)

hit-read : (x y : ℕ) → 0 < hit x y → x ≡ y
unfolding hit
hit-read x y = go (ℕ_discrete x y)
  where
    go : (d : Dec (x ≡ y)) → 0 < hit_of d → x ≡ y
    go (yes q) l = q
    go (no q) l = absurd (omega arith)

hit-most : (x y : ℕ) → hit x y ≤ 1
unfolding hit
hit-most x y = go (ℕ_discrete x y)
  where
    go : (d : Dec (x ≡ y)) → hit_of d ≤ 1
    go (yes q) = omega arith
    go (no q) = omega arith

times-append : (x : ℕ) (l k : List ℕ) → times x (l ++ k) ≡ times x l + times x k
unfolding times
times-append x [] k = omega arith
times-append x (y ∷ l) k = omega (arith, times-append x l k)

at-times : (x : ℕ) (l : List ℕ) (i : ℕ) → At l i x → 0 < times x l
unfolding times
at-times x [] i a = absurd a
at-times x (y ∷ l) zero a = omega (arith, hit_same x y a)
at-times x (y ∷ l) (suc i) a = omega (arith, at-times x l i a)

times-at : (x : ℕ) (l : List ℕ) → 0 < times x l → (i : ℕ) × At l i x
unfolding times
times-at x [] h = absurd (omega arith)
times-at x (y ∷ l) h = go (ℕ_discrete (hit x y) 0) (times-at x l)
  where
    go : Dec (hit x y ≡ 0) → (0 < times x l → (i : ℕ) × At l i x) → (i : ℕ) × At (y ∷ l) i x
    go (yes z) ih = let r = ih (omega arith) in (suc r.0, r.1)
    go (no z) ih = (0, hit-read x y (omega arith))

times-once : (x : ℕ) (l : List ℕ) → Once l → times x l ≤ 1
unfolding times
times-once x [] o = omega arith
times-once x (y ∷ l) o = go (ℕ_discrete (hit x y) 0) (ℕ_discrete (times x l) 0) (times-once x l (λ i j z a b. omega (arith, o (suc i) (suc j) z a b)))
  where
    go : Dec (hit x y ≡ 0) → Dec (times x l ≡ 0) → times x l ≤ 1 → hit x y + times x l ≤ 1
    go (yes z) d ih = omega arith
    go (no z) (yes w) ih = omega (arith, hit-most x y)
    go (no z) (no w) ih = let r = times-at x l (omega arith) in absurd (omega (arith, o 0 (suc r.0) x (hit-read x y (omega arith)) r.1))

-- what the numbers up to the count hold
module _ (cells : List ℕ) where
  shown-times : (k i : ℕ) → i < k → 0 < times (get_or cells i 0) (stack_of cells k)
  unfolding stack_of times
  shown-times zero i l = absurd (omega arith)
  shown-times (suc k) i l = go (ℕ_discrete i k) (shown-times k i)
    where
      go : Dec (i ≡ k) → (i < k → 0 < times (get_or cells i 0) (stack_of cells k)) → 0 < hit (get_or cells i 0) (get_or cells k 0) + times (get_or cells i 0) (stack_of cells k)
      go (yes e) ih = omega (arith, hit_same (get_or cells i 0) (get_or cells k 0) (ap (λ (j : ℕ). get_or cells j 0) e))
      go (no e) ih = omega (arith, ih (omega arith))

  times-shown : (x k : ℕ) → 0 < times x (stack_of cells k) → (i : ℕ) × (i < k) × (get_or cells i 0 ≡ x)
  unfolding stack_of times
  times-shown x zero h = absurd (omega arith)
  times-shown x (suc k) h = go (ℕ_discrete (hit x (get_or cells k 0)) 0) (times-shown x k)
    where
      go : Dec (hit x (get_or cells k 0) ≡ 0) → (0 < times x (stack_of cells k) → (i : ℕ) × (i < k) × (get_or cells i 0 ≡ x)) → (i : ℕ) × (i < suc k) × (get_or cells i 0 ≡ x)
      go (yes z) ih = let r = ih (omega arith) in (r.0, omega (arith, r.1), r.2)
      go (no z) ih = (k, omega arith, sym (hit-read x (get_or cells k 0) (omega arith)))

-- every cell that was opened is on the stack or closed, as often as it was opened: each step keeps it
module _ (b : Chart) (m : Memory) (x : ℕ) where
  balance_step : (n : ℕ) (cs : List ℕ) (w : Memory) → times x (step_at b n cs w).stack + times x (closing n cs) ≡ times x cs + times x (opening n)
  unfolding times
  balance_step (suc s) cs w = omega arith
  balance_step zero [] w = omega arith
  balance_step zero (c ∷ []) w = omega arith
  balance_step zero (c ∷ f ∷ fs) w = omega arith

  balance : (n : ℕ) → times x (opened b m n) ≡ times x (run b n (begin b m)).stack + times x (closed_by b m n)
  unfolding run visits closings step times
  balance zero = omega arith
  balance (suc n) =
      let st = run b n (begin b m) in
      let e = balance_step st.next st.stack st.memory in
      let o = times-append x (visits b n (begin b m)) (opening st.next) in
      let s = times-append x (closings b n (begin b m)) (closing st.next st.stack) in
      omega (arith, balance n)

module _ (t : Table) (fit : Fit t) (b : Chart) (links : Links t b.links) (m : Memory) where
  -- what is opened after n steps is the beginning of the preorder: so no cell is opened twice
  opened-most : (n x : ℕ) → times x (opened b m n) ≤ 1
  unfolding times
  opened-most n x =
      let all = all_turns t fit b links m in
      let rest = seen b.links all (moves b.links n (forget (begin b m))) in
      let q : n + all ≡ all + n = omega arith in
      let whole : visits b n (begin b m) ++ rest ≡ visits b all (begin b m) =
      ap (λ (l : List ℕ). l ++ rest) (visits-seen b n (begin b m)) ∙ sym (seen-add b.links n all (forget (begin b m))) ∙ sym (visits-seen b (n + all) (begin b m)) ∙ ap (λ (k : ℕ). visits b k (begin b m)) q
      ∙ idle t fit b links m all n (ends-closed t fit b links m) in
      let p = ap (times x) (ap (λ (l : List ℕ). 0 ∷ l) whole ∙ all-opened t fit b links m) in
      let a = times-append x (visits b n (begin b m)) rest in
      omega (arith, times-once x (preorder t 0) (preorder-once t fit).once)

  module _ (n : ℕ) (cells : List ℕ) (count : ℕ) (e : stack_of cells count ≡ (run b n (begin b m)).stack) where
    count-is : (x : ℕ) → times x (opened b m n) ≡ times x (stack_of cells count) + times x (closed_by b m n)
    count-is x = rw e (balance b m x n)

    still_open : (i : ℕ) → i < count → StillOpen b m n (get_or cells i 0)
    still_open i l =
        let x = get_or cells i 0 in
        let s = shown-times cells count i l in
        let p = times-at x (opened b m n) (omega (arith, count-is x)) in
        record { place = p.0; was_opened = p.1; not_closed = λ j a. omega (arith, count-is x, opened-most n x, at-times x (closed_by b m n) j a) }

    every_open : (x : ℕ) → StillOpen b m n x → (i : ℕ) × (i < count) × (get_or cells i 0 ≡ x)
    every_open x o = go (ℕ_discrete (times x (closed_by b m n)) 0)
      where
        go : Dec (times x (closed_by b m n) ≡ 0) → (i : ℕ) × (i < count) × (get_or cells i 0 ≡ x)
        go (yes z) = times-shown cells x count (omega (arith, count-is x, at-times x (opened b m n) o.place o.was_opened))
        go (no z) = let r = times-at x (closed_by b m n) (omega arith) in absurd (o.not_closed r.0 r.1)

    pub open_cells : OpenCells t b m n cells count
    open_cells =
        record {
          few = omega (arith, stack_of-length cells count, chained_few t fit b.links links (stack_of cells count) held);
          root = λ l. stack_root t cells count l held;
          each = λ i l. stack_each t cells count i l held;
          only = still_open;
          every = every_open;
        }
      where
        held : Chained t (stack_of cells count)
        held = rw e (chained-from t fit b links m n)

module _ (b : Chart) (m : Memory) where
  pub visiting : (cells : List ℕ) (count next : ℕ) (xs ms : List ℕ) (n : ℕ) → state_of cells count next xs ms ≡ run b n (begin b m) → Visiting b m cells count next xs ms
  visiting cells count next xs ms n e =
      record { turns = n; there = e; open_now = λ t su. open_cells t su.fit b su.links m n cells count (ap (λ (st : State). st.stack) e) }

pub visiting_start : (b : Chart) (cells : List ℕ) (count n : ℕ) (xs ms : List ℕ) → stack_of cells count ≡ 0 ∷ [] → n ≡ link b.links 0 0 → Visiting b (memory_of xs ms) cells count n xs ms
unfolding run
visiting_start b cells count n xs ms e en = visiting b (memory_of xs ms) cells count n xs ms 0 (λ i. record { stack = e i; next = en i; memory = memory_of xs ms })

-- ---- the contract of walk
pub visited : (b : Chart) (m : Memory) {cells : List ℕ} {count next : ℕ} {xs ms : List ℕ} → Visiting b m cells count next xs ms → count ≡ 0 → Visited b m (memory_of xs ms)
unfolding stack_of
visited b m {cells} {count} {next} {xs} {ms} v z =
    record {
      turns = v.turns;
      closed = shut;
      leaves = sym (ap (λ (st : State). st.memory) v.there);
      open_cells = λ t su. open_cells t su.fit b su.links m;
      in_order = λ t su. opened-in_order t su.fit b su.links m v.turns shut;
      once = λ t su. opened-once t su.fit b su.links m v.turns shut;
      siblings = λ t su. siblings_in_order t su.fit b su.links m v.turns shut;
    }
  where
    shut : (run b v.turns (begin b m)).stack ≡ []
    shut = ap (λ (st : State). st.stack) (sym v.there) ∙ ap (stack_of cells) z
