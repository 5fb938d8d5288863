-- From one finished cell to the next, along the links: it is the order of finishing. Assumes nothing.
use Rattle.std.specs.Prelude.{◌≡◌, ◌≢◌, Bool, ◌||◌, length, get_or, take}
use Rattle.std.proofs.Math.Path.{refl, ap, subst}
use Rattle.std.proofs.Common.{◌∙◌, sym, add-one, eq-eqb, ne_eqb}
use mathlib.Core.List.{List, [], ◌∷◌, ◌++◌}
use Rattle.std.proofs.Math.Bool.{true, false, cond}
use Prim.Native.Nat.{ℕ, zero, suc, ◌+◌, ◌-◌, ◌≤◌, ◌<◌}
use native.Mathlib.Omega.{arith}
use Rattle.std.proofs.Math.Decide.{ℕ_discrete}
use Rattle.std.proofs.Math.Seq.{take-suc}
use Rattle.std.proofs.Math.Dec.{eqb}
use Rattle.contours.proofs.Laws.Forest.{Forest, Grown, forest, grown}
use Rattle.links.specs.Links.{Links, link}
use Rattle.plan.specs.Fit.{Fit}
use Rattle.plan.specs.Limits.{most_cells}
use Rattle.plan.specs.Lists.{At, mem, some}
use Rattle.plan.specs.Plan.{Table, Is, parent, children}
use Rattle.plan.proofs.Laws.Lists.{at_get_or, at_mem}
use Rattle.plan.proofs.Laws.Paths.{child_less}
use Rattle.plan.proofs.Laws.Plan.{child-read, child_show}
use Rattle.walk.proofs.Laws.Tree.{Tail, tail_all, tail_head, tail_next, tail_first}
use Rattle.finishing_order.specs.Postorder.{postorder}
use Rattle.finishing_order.specs.Order.{down, leaf, enter, after, nth, met, Falls, Seeks}
use Rattle.finishing_order.proofs.Laws.Postorder.{post, post-all}
use Rattle.finishing_order.proofs.Laws.Members.{order_is, order_length}

pub nth-more : (ls ps : List ℕ) (i : ℕ) → nth ls ps (i + 1) ≡ after ls ps (nth ls ps i)
unfolding nth
nth-more ls ps i = rw add-one

pub met-more : (ls ps : List ℕ) (x i : ℕ) → met ls ps x (i + 1) ≡ met ls ps x i || eqb x (nth ls ps i)
unfolding met
met-more ls ps x i = rw add-one

module _ (ls : List ℕ) where
  pub down-stop : (k c : ℕ) → link ls c 0 ≡ 0 → down ls k c ≡ c
  unfolding down
  down-stop zero c e = refl
  down-stop (suc k) c e = rw (eq-eqb (link ls c 0) 0 e)

  down_go : (k c : ℕ) → 0 < link ls c 0 → down ls (suc k) c ≡ down ls k (link ls c 0)
  unfolding down
  down_go k c l = let ne : link ls c 0 ≢ 0 = omega arith in rw (ne_eqb (link ls c 0) 0 ne)

  module _ (n : ℕ) (h : Falls ls n) where
    enough : (k j c : ℕ) → c < n → n ≤ c + k → n ≤ c + j → down ls k c ≡ down ls j c
    enough zero j c l p q = absurd (omega arith)
    enough (suc k) zero c l p q = absurd (omega arith)
    enough (suc k) (suc j) c l p q =
        elim (ℕ_discrete (link ls c 0) 0) [
          | yes e ↦ down-stop (suc k) c e ∙ sym (down-stop (suc j) c e)
          | no ne ↦
              let lt : 0 < link ls c 0 = omega arith in
              let f = h.falls c l lt in
              down_go k c lt ∙ enough k j (link ls c 0) f.1 (omega arith) (omega arith) ∙ sym (down_go j c lt)
        ]

    pub leaf-more : (c : ℕ) → c < n → 0 < link ls c 0 → leaf ls c ≡ leaf ls (link ls c 0)
    leaf-more c l lt =
        let f = h.falls c l lt in
        let e : most_cells - c ≡ suc (most_cells - c - 1) = omega (arith, h.few) in
        ap (λ (k : ℕ). down ls k c) e ∙ down_go (most_cells - c - 1) c lt ∙ enough (most_cells - c - 1) (most_cells - link ls c 0) (link ls c 0) f.1 (omega (arith, h.few)) (omega (arith, h.few))

    leaf-enter : (c : ℕ) → c < n → leaf ls c ≡ enter ls c (link ls c 0)
    unfolding enter
    leaf-enter c l = go (ℕ_discrete (link ls c 0) 0)
      where
        go : Dec (link ls c 0 ≡ 0) → leaf ls c ≡ cond (eqb (link ls c 0) 0) c (leaf ls (link ls c 0))
        go (yes e) = rw (eq-eqb (link ls c 0) 0 e) (down-stop (most_cells - c) c e)
        go (no ne) = rw (ne_eqb (link ls c 0) 0 ne) (leaf-more c l (omega arith))

pub enter-none : (ls : List ℕ) (f h : ℕ) → h ≡ 0 → enter ls f h ≡ f
unfolding enter
enter-none ls f h e = rw (eq-eqb h 0 e)

pub enter-some : (ls : List ℕ) (f h : ℕ) → 0 < h → enter ls f h ≡ leaf ls h
unfolding enter
enter-some ls f h l = let ne : h ≢ 0 = omega arith in rw (ne_eqb h 0 ne)

pub after_root : (ls ps : List ℕ) (c : ℕ) → c ≡ 0 → after ls ps c ≡ 0
unfolding after
after_root ls ps c e = rw e

pub after-some : (ls ps : List ℕ) (c : ℕ) → 1 ≤ c → after ls ps c ≡ enter ls (get_or ps c 0) (link ls c 1)
unfolding after
after-some ls ps zero l = absurd (omega arith)
after-some ls ps (suc p) l = refl

-- from a along l to e
abbrev Follows : (ls ps : List ℕ) → ℕ → List ℕ → ℕ → Type 0
Follows ls ps a [] e = a ≡ e
Follows ls ps a (x ∷ l) e = (a ≡ x) × Follows ls ps (after ls ps x) l e

follows_append : (ls ps : List ℕ) (a : ℕ) (l : List ℕ) (m : ℕ) (r : List ℕ) (e : ℕ) → Follows ls ps a l m → Follows ls ps m r e → Follows ls ps a (l ++ r) e
follows_append ls ps a [] m r e p q = subst (λ (z : ℕ). Follows ls ps z r e) (sym p) q
follows_append ls ps a (x ∷ l) m r e p q = (p.0, follows_append ls ps (after ls ps x) l m r e p.1 q)

follows_nth : (ls ps : List ℕ) (l : List ℕ) (e j : ℕ) → Follows ls ps (nth ls ps j) l e → (i : ℕ) → i < length l → nth ls ps (j + i) ≡ get_or l i 0
follows_nth ls ps [] e j h i l = absurd (omega arith)
follows_nth ls ps (x ∷ l) e j h zero lt = let z : j + 0 ≡ j = omega arith in rw z h.0
follows_nth ls ps (x ∷ l) e j h (suc i) lt =
    let z : j + suc i ≡ suc j + i = omega arith in
    let s : nth ls ps (suc j) ≡ after ls ps x = unfold nth in ap (after ls ps) h.0 in
    rw z (follows_nth ls ps l e (suc j) (subst (λ (a : ℕ). Follows ls ps a l e) (sym s) h.1) i (omega arith))

-- the links and the parents of a table
module _ (t : Table) (fit : Fit t) (ls ps : List ℕ) (links : Links t ls) (up : (c : ℕ) → Is t c → get_or ps c 0 ≡ parent t c) where
  first-child : (c : ℕ) → Is t c → 0 < link ls c 0 → At (children t c) 0 (link ls c 0)
  first-child c i l = rw (links.first c i) (at_get_or (children t c) 0 0 (go (children t c) (rw (links.first c i) at l)))
    where
      go : (cs : List ℕ) → 0 < get_or cs 0 0 → 0 < length cs
      go [] h = absurd (omega (arith, h))
      go (c ∷ cs) h = omega arith

  pub fall : Falls ls (length t)
  fall = record { room = links.size; few = fit.not_too_many; falls = λ a i l. child_less t fit.sound a 0 (link ls a 0) (first-child a i l) }

  follows : {cs : List ℕ} {F : Forest} → Grown t cs F → (f o : ℕ) → Tail t f o cs → Follows ls ps (enter ls f (get_or cs 0 0)) (post F) f
  unfolding post
  follows Grown.nil f o ta = enter-none ls f 0 refl
  follows (Grown.cons {c = c} {cs = cs} {F = F} {r = r} g k) f o ta =
      let hc = tail_head t f o c cs ta in
      let less = child_less t fit.sound f o c hc in
      let in_c : enter ls f c ≡ enter ls c (get_or (children t c) 0 0) =
      enter-some ls f c (omega (arith, less)) ∙ leaf-enter ls (length t) fall c less.1 ∙ ap (enter ls c) (links.first c less.1) in
      let on : after ls ps c ≡ enter ls f (get_or cs 0 0) =
      after-some ls ps c (omega (arith, less)) ∙ (λ i. enter ls ((up c less.1 ∙ (child-read t f o c hc).of) i) ((links.next f o c hc ∙ tail_first t f (suc o) cs (tail_next t f o c cs ta)) i)) in
      follows_append ls ps (enter ls f c) (post F) c (c ∷ post r) f (subst (λ (a : ℕ). Follows ls ps a (post F) c) (sym in_c) (follows g c 0 (tail_all t c)))
      (refl, subst (λ (a : ℕ). Follows ls ps a (post r) f) (sym on) (follows k f (suc o) (tail_next t f o c cs ta)))

  whole_order : Follows ls ps (leaf ls 0) (postorder t) (after ls ps 0)
  whole_order =
      let e : leaf ls 0 ≡ enter ls 0 (get_or (children t 0) 0 0) = leaf-enter ls (length t) fall 0 fit.some_cell ∙ ap (enter ls 0) (links.first 0 fit.some_cell) in
      rw (post-all t)
      (follows_append ls ps (leaf ls 0) (post (forest t (length t) 0)) 0 (0 ∷ []) (after ls ps 0)
      (subst (λ (a : ℕ). Follows ls ps a (post (forest t (length t) 0)) 0) (sym e) (follows (grown t fit.sound 0) 0 0 (tail_all t 0))) (refl, refl))

  size : length (postorder t) ≡ length t
  size = order_length t fit.sound fit.some_cell

  pub nth_is : (i : ℕ) → i < length t → nth ls ps i ≡ get_or (postorder t) i 0
  nth_is i l =
      let z : 0 + i ≡ i = omega arith in
      let h : Follows ls ps (nth ls ps 0) (postorder t) (after ls ps 0) = unfold nth in whole_order in
      let r = follows_nth ls ps (postorder t) (after ls ps 0) 0 h i (omega (arith, size)) in
      rw z at r

  pub nth_in : (i : ℕ) → i < length t → nth ls ps i < length t
  nth_in i l =
      rw (nth_is i l)
      (order_is t fit.sound fit.some_cell (get_or (postorder t) i 0) (at_mem (postorder t) i (get_or (postorder t) i 0) (at_get_or (postorder t) i 0 (omega (arith, size)))))

  -- the next of a cell but the last is a cell
  pub next_sibling : (c : ℕ) → Is t c → 1 ≤ c → 0 < link ls c 1 → link ls c 1 < length t
  next_sibling c i lo l =
      let (j, a) = child_show t (parent t c) c (record { low = lo; is = i; of = refl }) in
      (child_less t fit.sound (parent t c) (suc j) (link ls c 1) (rw (links.next (parent t c) j c a) (at_get_or (children t (parent t c)) (suc j) 0 (go (children t (parent t c)) (suc j) (rw (links.next (parent t c) j c a) at l))))).1
    where
      go : (cs : List ℕ) (j : ℕ) → 0 < get_or cs j 0 → j < length cs
      go [] j h = absurd (omega (arith, h))
      go (c ∷ cs) zero h = omega arith
      go (c ∷ cs) (suc j) h = omega (arith, go cs j h)

  pub seeks : Seeks ls ps (length t)
  seeks = record { falls = fall; inside = nth_in; sibling = next_sibling }

  mem_snoc : (x a : ℕ) (l : List ℕ) → mem x (l ++ (a ∷ [])) ≡ mem x l || eqb x a
  unfolding mem some
  mem_snoc x a [] = go (eqb x a)
    where
      go : (b : Bool) → b || false ≡ b
      go true = refl
      go false = refl
  mem_snoc x a (y ∷ l) = ap (λ (z : Bool). eqb x y || z) (mem_snoc x a l) ∙ go (eqb x y) (some (λ b. eqb x b) l) (eqb x a)
    where
      go : (a b c : Bool) → a || (b || c) ≡ (a || b) || c
      go true b c = refl
      go false b c = refl

  pub met-is : (x k : ℕ) → k ≤ length t → met ls ps x k ≡ mem x (take k (postorder t))
  unfolding met
  met-is x zero l = unfold mem some in refl
  met-is x (suc k) l =
      let e = take-suc (postorder t) k 0 (omega (arith, size)) in
      rw (e, mem_snoc x (get_or (postorder t) k 0) (take k (postorder t)), met-is x k (omega arith), nth_is k (omega arith))
