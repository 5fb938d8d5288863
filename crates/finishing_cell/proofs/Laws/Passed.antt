-- The walk's machine passes the cells in this order, and each is ready when it is finished. Assumes nothing.
use Rattle.std.specs.Prelude.{◌≡◌, refl, List, [], ◌∷◌, ◌++◌, length, get_or}
use Rattle.std.proofs.Common.{◌∙◌}
use Rattle.std.proofs.Math.Path.{ap, sym, subst}
use Prim.Native.Nat.{ℕ, zero, suc, ◌+◌, ◌*◌}
use native.Mathlib.Omega.{arith}
use Rattle.contours.proofs.Laws.Forest.{Forest, Grown}
use Rattle.joining.specs.Joining.{Memory}
use Rattle.plan.specs.Lists.{At}
use Rattle.plan.specs.Plan.{Table, Is, parent, children, level}
use Rattle.plan.proofs.Laws.Paths.{child_less}
use Rattle.plan.proofs.Laws.Plan.{child-read, child-index, child-place}
use Rattle.walk.specs.Machine.{Chart, State, closed, step, Closing, Ending}
use Rattle.walk.specs.Walked.{Suits}
use Rattle.walk.proofs.Laws.Machine.{step_open, step_close, Safe}
use Rattle.walk.proofs.Laws.Tree.{Tail, tail_all, tail_head, tail_next, tail_first, sum}
use Rattle.plan.proofs.Laws.Trees.{level-child}
use Rattle.finishing_cell.specs.Made.{finishes, work}
use Rattle.finishing_order.proofs.Laws.Postorder.{post}

-- what finishing the cell c needs
abbrev pub Ready : Table → Chart → ℕ → Memory → Type 0
Ready t b zero m = Ending b m
Ready t b (suc p) m = Closing b (level t (parent t (suc p))) (parent t (suc p)) (suc p) m.rows m.marks

-- each of cs in turn
abbrev pub Passes : Table → Chart → List ℕ → Memory → Type 0
Passes t b [] m = Unit {0}
Passes t b (c ∷ cs) m = Ready t b c m × Passes t b cs (finishes t b.allowance c m)

pub work-append : (t : Table) (al : ℕ) (xs ys : List ℕ) (m : Memory) → work t al (xs ++ ys) m ≡ work t al ys (work t al xs m)
unfolding work
work-append t al [] ys m = refl
work-append t al (x ∷ xs) ys m = work-append t al xs ys (finishes t al x m)

pub passes_append : (t : Table) (b : Chart) (xs ys : List ℕ) (m : Memory) → Passes t b xs m → Passes t b ys (work t b.allowance xs m) → Passes t b (xs ++ ys) m
unfolding work
passes_append t b [] ys m p q = q
passes_append t b (x ∷ xs) ys m p q = (p.0, passes_append t b xs ys _ p.1 q)

module _ (t : Table) (b : Chart) (su : Suits t b) (Q : Memory → Type 0) where
  abbrev al : ℕ
  al = b.allowance

  abbrev size : Forest → ℕ
  size F = sum (λ x. 1) F

  abbrev on : ℕ → List ℕ → ℕ → Memory → State
  on f stack h m = record { stack = f ∷ stack; next = h; memory = m }

  -- the child c of f closed, by the chart and by the table
  pub closes : (f i c : ℕ) (m : Memory) → Is t f → At (children t f) i c → closed b (level t f) f c m ≡ finishes t al c m
  unfolding closed finishes
  closes f i zero m fi h = absurd (omega (arith, (child-read t f i 0 h).low))
  closes f i (suc p) m fi h =
      let k = child-read t f i (suc p) h in
      let l = child_less t su.fit.sound f i (suc p) h in
      let ix = child-place t f _ _ (suc p) (child-index t f (suc p) k) h in
      rw (k.of, su.top_of (suc p) l.1, su.deep_of (suc p) l.1, su.wide_of (suc p) l.1, su.links.place_of f i (suc p) h, su.links.appointed_of f fi, ix)

  ready_is : (f i c : ℕ) (m : Memory) → At (children t f) i c → Closing b (level t f) f c m.rows m.marks → Ready t b c m
  ready_is f i zero m h r = absurd (omega (arith, (child-read t f i 0 h).low))
  ready_is f i (suc p) m h r = rw (child-read t f i (suc p) h).of r

  -- the walk over the children of f from place o on
  pub passed : {cs : List ℕ} {F : Forest} → Grown t cs F → (f o : ℕ) (stack : List ℕ) (m : Memory) (n : ℕ) → Is t f → length stack ≡ level t f → Tail t f o cs
      → Safe b Q (2 * size F + n) (on f stack (get_or cs 0 0) m) → Passes t b (post F) m × Safe b Q n (on f stack 0 (work t al (post F) m))
  unfolding post sum work
  passed Grown.nil f o stack m n fi ls ta s = let e : 2 * 0 + n ≡ n = omega arith in (tt, rw e at s)
  passed (Grown.cons {c = c} {cs = cs} {F = F} {r = r} g h) f o stack m n fi ls ta s =
      let e : 2 * (1 + size F + size r) + n ≡ suc (2 * size F + suc (2 * size r + n)) = omega arith in
      let hc = tail_head t f o c cs ta in
      let less = child_less t su.fit.sound f o c hc in
      let opened : step b (on f stack c m) ≡ on c (f ∷ stack) (get_or (children t c) 0 0) m =
      step_open b (f ∷ stack) c m (omega (arith, less)) ∙ ap (λ (x : ℕ). on c (f ∷ stack) x m) (su.links.first c less.1) in
      let s₁ = subst (Safe b Q (2 * size F + suc (2 * size r + n))) opened (rw e at s).1 in
      let (p₁, s₂) = passed g c 0 (f ∷ stack) m (suc (2 * size r + n)) less.1 (ap suc ls ∙ sym (level-child t su.fit.sound f o c hc)) (tail_all t c) s₁ in
      let m₁ = work t al (post F) m in
      let ready = ready_is f o c m₁ hc (rw ls at (s₂.0.shut refl)) in
      let shut : step b (on c (f ∷ stack) 0 m₁) ≡ on f stack (get_or cs 0 0) (finishes t al c m₁) =
      step_close b c f stack m₁ ∙ (λ i. on f stack ((su.links.next f o c hc ∙ tail_first t f (suc o) cs (tail_next t f o c cs ta)) i) (closed b (ls i) f c m₁)) ∙ ap (on f stack (get_or cs 0 0)) (closes f o c m₁ fi hc) in
      let (p₂, s₃) = passed h f (suc o) stack (finishes t al c m₁) n fi ls (tail_next t f o c cs ta) (subst (Safe b Q (2 * size r + n)) shut s₂.1) in
      (passes_append t b (post F) (c ∷ post r) m p₁ (ready, p₂), subst (λ (z : Memory). Safe b Q n (on f stack 0 z)) (sym (work-append t al (post F) (c ∷ post r) m)) s₃)
