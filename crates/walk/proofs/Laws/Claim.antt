-- The walk below an open cell: every child is opened and closed in turn, and all at or below them get their marks. Assumes nothing.
use Rattle.std.specs.Prelude.{◌≡◌, refl, ◌≢◌, List, [], ◌∷◌, get_or}
use Rattle.std.proofs.Common.{◌∙◌, sym, subst, inl, inr, add-zero}
use Rattle.std.proofs.Math.Path.{ap}
use Prim.Native.Nat.{ℕ, zero, suc, ◌+◌, ◌*◌, ◌≤◌, ◌<◌}
use native.Mathlib.Omega.{arith}
use Rattle.std.proofs.Math.ListN.{length}
use Rattle.plan.specs.Limits.{most_cells, farthest}
use Rattle.plan.specs.Lists.{At}
use Rattle.plan.specs.Plan.{Table, Is, box_width, box_depth, children, place, level, row}
use Rattle.plan.proofs.Laws.Paths.{Below, below_split, child_less, row-child}
use Rattle.plan.proofs.Laws.Trees.{level-child}
use Rattle.contours.specs.Contour.{Contour, greatest, offset}
use Rattle.contours.specs.Sheet.{contours, whole_contour}
use Rattle.contours.proofs.Laws.Forest.{Forest, none, tree, Grown}
use Rattle.folding.proofs.Laws.Fold.{Tally, fresh, add, boxed, partial}
use Rattle.folding.proofs.Laws.Folded.{contours-length, partial-none, partial-next, partial-done, partial-far, partial-box, partial-middle}
use Rattle.joining.specs.Joining.{Memory, memory_of, mark}
use Rattle.links.specs.Links.{link}
use Rattle.walk.specs.Machine.{Chart, State, wide, deep, apt, closed, step, Turning, Closing}
use Rattle.walk.proofs.Laws.Machine.{step_open, step_close, Safe}
use Rattle.walk.proofs.Laws.Tree.{Tail, tail_all, tail_head, tail_next, tail_first, Out, below-below, sum, below-most, out_later}
use Rattle.walk.proofs.Laws.Shows.{Shows, SameMarks, Kept, kept-none, kept_then, Fine, Long, open_shows, Shut, closing, shut}
use Rattle.walk.specs.Walked.{Suits, Right}

pub right-keep : (t : Table) (al : ℕ) (ms ns : List ℕ) (x : ℕ) → ((y : ℕ) → Below t y x → SameMarks ms ns y) → Right t al ms x → Right t al ns x
right-keep t al ms ns x same h =
    record {
      middle_of = same x Below.here 0 (omega arith) ∙ h.middle_of;
      left_of = same x Below.here 1 (omega arith) ∙ h.left_of;
      right_of = same x Below.here 2 (omega arith) ∙ h.right_of;
      offset_of = λ i s a. same s (Below.down i s a Below.here) 3 (omega arith) ∙ h.offset_of i s a;
    }

-- of the children of f from place o on: where they stand; and what is below them
pub record Rights (t : Table) (al : ℕ) (ms : List ℕ) (f o : ℕ) (cs : List ℕ) : Type 0 where
  pub stand : (i s : ℕ) → At cs i s → mark ms s 3 ≡ offset al 0 (contours t al f) (o + i)
  pub below : (x i s : ℕ) → At cs i s → Below t x s → Right t al ms x

-- not visited yet
abbrev Blank : Table → List ℕ → List ℕ → Type 0
Blank t ms cs = (x i s : ℕ) → At cs i s → Below t x s → (k : ℕ) → k < 4 → mark ms x k ≡ 0

abbrev pub at : ℕ → List ℕ → ℕ → List ℕ → List ℕ → State
at f cs h xs ms = record { stack = f ∷ cs; next = h; memory = memory_of xs ms }

-- what is not below c is neither c nor below a child of c
out_child : (t : Table) (x c : ℕ) → (Below t x c → ⊥) → (x ≢ c) × Out t x (children t c)
out_child t x c off = ((λ e. off (rw e Below.here)), λ i s a w. off (Below.down i s a w))

module _ (t : Table) (b : Chart) (su : Suits t b) (Q : Memory → Type 0) where
  abbrev al : ℕ
  al = b.allowance

  abbrev appointed : ℕ → ℕ
  appointed f = place t f (length (contours t al f))

  abbrev weight : Forest → ℕ
  weight F = sum (λ x. box_width t x + 1) F

  abbrev size : Forest → ℕ
  size F = sum (λ x. 1) F

  appointed-is : (f : ℕ) → Is t f → apt b f ≡ appointed f
  appointed-is f i = su.links.appointed_of f i ∙ ap (place t f) (sym (contours-length t al f))

  pub long : Long b
  long = record { links = su.links.size; widths = su.widths; depths = su.depths; tops = su.tops }

  -- the children cs of the open cell f from place o on, and all below them
  abbrev pub Claim : List ℕ → Forest → Type 0
  Claim cs F = (f v u o : ℕ) (stack : List ℕ) (a : Tally) (s : ℕ) (xs ms : List ℕ) (n : ℕ)
      → Is t f → level t f ≡ v → row t f + box_depth t f + 1 ≡ u → a ≡ partial t al f o → length stack ≡ v → Tail t f o cs → Blank t ms cs → Shows xs ms f v u (appointed f) a s → s + weight F ≤ farthest
      → ((ys ns : List ℕ) (z : Tally) → z ≡ partial t al f (length (children t f)) → Shows ys ns f v u (appointed f) z (s + weight F) → Kept xs ms ys ns f v u (λ x. Out t x cs) → Rights t al ns f o cs → Safe b Q n (at f stack 0 ys ns))
      → Safe b Q (2 * size F + n) (at f stack (get_or cs 0 0) xs ms)

  none_claim : Claim [] none
  unfolding sum
  none_claim f v u o stack a s xs ms n fi le ro ea ls ta ze sh wl k =
      let e : 2 * 0 + n ≡ n = omega arith in
      let e' : s + 0 ≡ s = omega arith in
      let o_is : o ≡ length (children t f) = omega (arith, ta.size) in
      rw e (k xs ms a (ea ∙ ap (partial t al f) o_is) (rw e' sh) (kept-none xs ms f v u (λ x. Out t x [])) (record { stand = λ i s h. absurd h; below = λ x i s h. absurd h }))

  module _ (c : ℕ) (cs : List ℕ) (F r : Forest) (ihs : Claim (children t c) F) (ihr : Claim cs r)
      (f v u o : ℕ) (stack : List ℕ) (a : Tally) (s : ℕ) (xs ms : List ℕ) (n : ℕ)
      (fi : Is t f) (le : level t f ≡ v) (ro : row t f + box_depth t f + 1 ≡ u) (ea : a ≡ partial t al f o) (ls : length stack ≡ v) (ta : Tail t f o (c ∷ cs)) (ze : Blank t ms (c ∷ cs))
      (sh : Shows xs ms f v u (appointed f) a s) (wl : s + ((box_width t c + 1) + weight F + weight r) ≤ farthest)
      (k : (ys ns : List ℕ) (z : Tally) → z ≡ partial t al f (length (children t f)) → Shows ys ns f v u (appointed f) z (s + ((box_width t c + 1) + weight F + weight r)) → Kept xs ms ys ns f v u (λ x. Out t x (c ∷ cs)) → Rights t al ns f o (c ∷ cs) → Safe b Q n (at f stack 0 ys ns)) where
    hc : At (children t f) o c
    hc = tail_head t f o c cs ta

    less : (f < c) × Is t c
    less = child_less t su.fit.sound f o c hc

    lev : level t c ≡ suc v
    lev = level-child t su.fit.sound f o c hc ∙ ap suc le

    row-c : row t c ≡ u
    row-c = row-child t su.fit.sound f o c hc ∙ ro

    fine : Fine b u (suc v) o c
    fine =
        record {
          small = omega (arith, less, su.fit.not_too_many);
          shallow = omega (arith, lev, su.fit.not_too_low c less.1);
          row = su.top_of c less.1 ∙ row-c;
          low = omega (arith, row-c, su.deep_of c less.1, su.fit.rows_few c less.1);
          place = su.links.place_of f o c hc;
        }

    opening : Turning b (at f stack c xs ms)
    opening =
        record {
          some = omega arith;
          many = omega (arith, fine.shallow, ls);
          into = λ l. record { links = omega (arith, fine.small, long.links); small = fine.small; room = omega (arith, fine.shallow, ls) };
          shut = λ e. absurd (omega (arith, e, less));
        }

    -- what is below c, but not c, is below no later sibling, and is not f
    under-c : (x : ℕ) → Below t x c → (x ≢ f) × Out t x cs
    under-c x w = ((λ e. omega (arith, below-most t su.fit.sound w, less, e)), λ i s a v. out_later t su.fit.sound f o c cs ta x i s a v w)

    -- when the child's own children are joined
    module _ (ys ns : List ℕ) (e : Tally) (ee : e ≡ partial t al c (length (children t c))) (sc : Shows ys ns c (suc v) (u + deep b c + 1) (appointed c) e (0 + weight F))
        (kept : Kept xs ms ys ns c (suc v) (u + deep b c + 1) (λ x. Out t x (children t c))) (rights : Rights t al ns c 0 (children t c)) where
      abbrev P : Contour
      P = boxed (deep b c) (wide b c) e

      abbrev A : Tally
      A = add al (appointed f) a P

      abbrev S : ℕ
      S = s + ((wide b c + 1) + (0 + weight F))

      p-is : P ≡ whole_contour t al c
      p-is = rw (su.deep_of c less.1, su.wide_of c less.1, ee) (partial-box t al c (length (children t c)) refl)

      a_is : A ≡ partial t al f (suc o)
      a_is = rw (p-is, ea) (partial-next t al f su.fit.sound o c hc)

      light : S ≤ farthest
      light = omega (arith, wl, su.wide_of c less.1)

      f≢c : f ≢ c
      f≢c q = omega (arith, less)

      f_small : f < most_cells
      f_small = omega (arith, fi, su.fit.not_too_many)

      f_out : Out t f (children t c)
      f_out i q h w = omega (arith, below-most t su.fit.sound w, child_less t su.fit.sound c i q h, less)

      a-done : a.done ≡ o
      a-done = ap (λ (z : Tally). z.done) ea ∙ partial-done t al f o (omega (arith, ta.size))

      E : Memory
      E = closed b v f c (memory_of ys ns)

      es : Shut xs ms ns f v u (appointed f) A S c e P (λ x. Out t x (children t c)) E
      unfolding E
      es = shut b xs ms ys ns f v u (appointed f) a s o c (appointed c) e (0 + weight F) (λ x. Out t x (children t c)) sh fine sc kept f≢c f_small f_out light a-done (appointed-is f fi) long

      shutting : Turning b (at c (f ∷ stack) 0 ys ns)
      shutting =
          record {
            some = omega arith;
            many = omega (arith, fine.shallow, ls);
            into = λ l. absurd (omega (arith, l));
            shut = λ q. subst (λ (m : ℕ). Closing b m f c ys ns) (sym ls)
                (closing b xs ms ys ns f v u (appointed f) a s o c (appointed c) e (0 + weight F) (λ x. Out t x (children t c)) sh fine sc kept f≢c f_small f_out light a-done (appointed-is f fi) long);
          }

      next-is : link b.links c 1 ≡ get_or cs 0 0
      next-is = su.links.next f o c hc ∙ tail_first t f (suc o) cs (tail_next t f o c cs ta)

      e_is : step b (at c (f ∷ stack) 0 ys ns) ≡ at f stack (get_or cs 0 0) E.rows E.marks
      unfolding E
      e_is = step_close b c f stack (memory_of ys ns) ∙ (λ i. record { stack = f ∷ stack; next = next-is i; memory = closed b (ls i) f c (memory_of ys ns) })

      -- those to come are still blank
      blank : Blank t E.marks cs
      blank x i q h w l m =
          let off = out_later t su.fit.sound f o c cs ta x i q h w in
          let lt = child_less t su.fit.sound f (o + suc i) q (ta.on (suc i) q h) in
          es.kept.others x (λ z. omega (arith, below-most t su.fit.sound w, lt)) (out_child t x c off) l m ∙ ze x (suc i) q h w l m

      -- the rest of the children is done too
      module _ (zs os : List ℕ) (kept' : Kept E.rows E.marks zs os f v u (λ x. Out t x cs)) (rights' : Rights t al os f (suc o) cs) where
        c-same : SameMarks E.marks os c
        c-same = let (p, q) = under-c c Below.here in kept'.others c p q

        below-same : (x : ℕ) → x ≢ c → Below t x c → SameMarks ns os x
        below-same x ne w l m = let (p, q) = under-c x w in kept'.others x p q l m ∙ es.same x p ne l m

        -- a child q of c, and what is below it
        child-same : (i q : ℕ) → At (children t c) i q → (x : ℕ) → Below t x q → SameMarks ns os x
        child-same i q h x w =
            below-same x (λ z. omega (arith, below-most t su.fit.sound w, child_less t su.fit.sound c i q h, z)) (Below.down i q h w)

        c-right : Right t al os c
        c-right =
            record {
              middle_of = c-same 0 (omega arith) ∙ es.mark0 ∙ rw ee (partial-middle t al c (length (children t c)) refl);
              left_of = c-same 1 (omega arith) ∙ es.mark1 ∙ ap (λ (p : Contour). greatest p.left) p-is;
              right_of = c-same 2 (omega arith) ∙ es.mark2 ∙ ap (λ (p : Contour). greatest p.right) p-is;
              offset_of = λ i q h. child-same i q h q Below.here 3 (omega arith) ∙ rights.stand i q h ∙ (let z : 0 + i ≡ i = omega arith in rw z);
            }

        all_right : Rights t al os f o (c ∷ cs)
        all_right = record { stand = stand; below = below }
          where
            stand : (i q : ℕ) → At (c ∷ cs) i q → mark os q 3 ≡ offset al 0 (contours t al f) (o + i)
            stand zero q h = rw (h, add-zero) (c-same 3 (omega arith) ∙ es.mark3 ∙ ap (λ (z : Tally). z.far) a_is ∙ partial-far t al f o c hc)
            stand (suc i) q h = let z : o + suc i ≡ suc o + i = omega arith in rw z (rights'.stand i q h)

            below : (x i q : ℕ) → At (c ∷ cs) i q → Below t x q → Right t al os x
            below x zero q h w =
                elim (below_split (rw h at w)) [
                  | inl z ↦ rw z c-right
                  | inr d ↦ right-keep t al ns os x (λ y y-under. child-same d.0 d.1 d.2 y (below-below y-under d.3)) (rights.below x d.0 d.1 d.2 d.3)
                ]
            below x (suc i) q h w = rights'.below x i q h w

      last : (zs os : List ℕ) (z : Tally) → z ≡ partial t al f (length (children t f)) → Shows zs os f v u (appointed f) z (S + weight r) → Kept E.rows E.marks zs os f v u (λ x. Out t x cs)
          → Rights t al os f (suc o) cs → Safe b Q n (at f stack 0 zs os)
      last zs os z ez shows' kept' rights' =
          let q : S + weight r ≡ s + ((box_width t c + 1) + weight F + weight r) = omega (arith, su.wide_of c less.1) in
          k zs os z ez (subst (Shows zs os f v u (appointed f) z) q shows')
          (kept_then xs ms E.rows E.marks zs os f v u (λ x. (x ≢ c) × Out t x (children t c)) (λ x. Out t x cs) (λ x. Out t x (c ∷ cs)) (λ x out. (out_child t x c (out 0 c refl), λ i. out (suc i))) es.kept kept')
          (all_right zs os kept' rights')

      back : Safe b Q (suc (2 * size r + n)) (at c (f ∷ stack) 0 ys ns)
      back = (
        shutting,
        subst (Safe b Q (2 * size r + n)) (sym e_is)
            (ihr f v u (suc o) stack A S E.rows E.marks n fi le ro a_is ls (tail_next t f o c cs ta) blank es.shows (omega (arith, wl, su.wide_of c less.1)) last),
      )

    forth : Safe b Q (suc (2 * size F + suc (2 * size r + n))) (at f stack c xs ms)
    forth =
        let first-is : link b.links c 0 ≡ get_or (children t c) 0 0 = su.links.first c less.1 in
        let step_is : step b (at f stack c xs ms) ≡ at c (f ∷ stack) (get_or (children t c) 0 0) xs ms =
        step_open b (f ∷ stack) c (memory_of xs ms) (omega (arith, less)) ∙ ap (λ (x : ℕ). at c (f ∷ stack) x xs ms) first-is in (
          opening,
          subst (Safe b Q (2 * size F + suc (2 * size r + n))) (sym step_is)
              (ihs c (suc v) (u + deep b c + 1) 0 (f ∷ stack) fresh 0 xs ms (suc (2 * size r + n)) less.1 lev (omega (arith, row-c, su.deep_of c less.1)) (sym (partial-none t al c)) (ap suc ls) (tail_all t c)
              (λ x i q h w. ze x 0 c refl (Below.down i q h w)) (open_shows b xs ms f v u (appointed f) a s o c (appointed c) sh fine (ze c 0 c refl Below.here)) (omega (arith, wl)) back),
        )

  tree_claim : (c : ℕ) (cs : List ℕ) (F r : Forest) → Claim (children t c) F → Claim cs r → Claim (c ∷ cs) (tree c F r)
  unfolding sum
  tree_claim c cs F r ihs ihr f v u o stack a s xs ms n fi le ro ea ls ta ze sh wl k =
      let e : 2 * (1 + size F + size r) + n ≡ suc (2 * size F + suc (2 * size r + n)) = omega arith in
      rw e (forth c cs F r ihs ihr f v u o stack a s xs ms n fi le ro ea ls ta ze sh wl k)

  pub claim : {cs : List ℕ} {F : Forest} → Grown t cs F → Claim cs F
  claim Grown.nil = none_claim
  claim (Grown.cons {c = c} {cs = cs} {F = F} {r = r} g h) = tree_claim c cs F r (claim g) (claim h)
