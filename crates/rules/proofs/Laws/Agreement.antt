-- What the rules and the measures say of a placement hangs on the cells of the table only. Assumes nothing.
use Rattle.std.specs.Prelude.{◌≡◌, List, [], ◌∷◌, length, T, ℤ, ◌+ℤ◌}
use Rattle.std.proofs.Math.Path.{refl, sym}
use Rattle.std.proofs.Common.{◌∙◌, arith}
use Prim.Native.Nat.{ℕ, zero, suc}
use Rattle.std.proofs.Math.IntN.{pos}
use Rattle.plan.specs.Lists.{mem}
use Rattle.plan.proofs.Laws.Lists.{mem-here, mem_there}
use Rattle.plan.specs.Plan.{Table, Is, Sound, parent, cells, subtree}
use Rattle.plan.proofs.Laws.Plan.{subtree-read, cells-read}
use Rattle.rules.specs.Placement.{Placement, Agree, greater, lesser, best, right, base, bottom, width, rows, left_extent, right_extent}
use Rattle.rules.specs.Search.{Verdict, kept, broken}
use Rattle.rules.proofs.Laws.Search.{lowest-same}
use Rattle.rules.specs.Tests.{kept1, meets, box4, stem4, test}
use Rattle.rules.specs.Verdict.{verdict, answer}
use Rattle.rules.proofs.Laws.Verdict.{fine-answer, faulty-answer}

best-same : (pick : ℤ → ℤ → ℤ) (f g : ℕ → ℤ) (m n : ℤ) (l : List ℕ) → m ≡ n → ((a : ℕ) → T (mem a l) → f a ≡ g a) → best pick f m l ≡ best pick g n l
unfolding best
best-same pick f g m n [] e h = e
best-same pick f g m n (a ∷ l) e h = best-same pick f g (pick m (f a)) (pick n (g a)) l (cc (h a (mem-here a a l refl))) (λ b k. h b (mem_there b a l k))

module _ (t : Table) (p q : Placement) (agree : Agree t p q) where
  right-same : (a : ℕ) → Is t a → right t p a ≡ right t q a
  unfolding right
  right-same a i = rw (agree a i).0

  base_same : (a : ℕ) → Is t a → base t p a ≡ base t q a
  unfolding base
  base_same a i = rw (agree a i).1

  bottom-same : (c : ℕ) → Is t c → bottom t p c ≡ bottom t q c
  unfolding bottom
  bottom-same c i = best-same _ _ _ _ _ (subtree t c) (base_same c i) (λ a m. base_same a (subtree-read t c a m).0)

  pub width_same : Is t 0 → width t p ≡ width t q
  unfolding width
  width_same o =
      let e = best-same greater (right t p) (right t q) _ _ (cells t) (right-same 0 o) (λ a m. right-same a (cells-read t a m)) in
      let s = best-same lesser p.x q.x _ _ (cells t) (agree 0 o).0 (λ a m. (agree a (cells-read t a m)).0) in
      cc

  pub rows_same : Is t 0 → rows t p ≡ rows t q
  unfolding rows
  rows_same o = rw (bottom-same 0 o)

  pub left_extent-same : (c : ℕ) → Is t c → left_extent t p c ≡ left_extent t q c
  unfolding left_extent
  left_extent-same c i =
      let s = best-same lesser p.x q.x _ _ (subtree t c) (agree c i).0 (λ a m. (agree a (subtree-read t c a m).0).0) in
      cc (agree c i).0

  pub right_extent-same : (c : ℕ) → Is t c → right_extent t p c ≡ right_extent t q c
  unfolding right_extent
  right_extent-same c i =
      let e = best-same greater (right t p) (right t q) _ _ (subtree t c) (right-same c i) (λ a m. right-same a (subtree-read t c a m).0) in
      cc (agree c i).0

  -- ---- each test
  kept1-same : Sound t → (a : ℕ) → Is t a → kept1 t p a ≡ kept1 t q a
  unfolding kept1
  kept1-same sound zero i = cc ((agree 0 i).0, (agree 0 i).1)
  kept1-same sound (suc m) i = cc ((agree (suc m) i).1, base_same (parent t (suc m)) (omega (arith, sound (suc m) (omega arith) i)))

  meets-same : (s e : ℤ) (b : ℕ) → Is t b → meets t p s e b ≡ meets t q s e b
  unfolding meets
  meets-same s e b i = cc ((agree b i).1, base_same b i, bottom-same b i)

  box4-same : (a b : ℕ) → Is t a → Is t b → box4 t p a b ≡ box4 t q a b
  unfolding box4
  box4-same a b i j = cc (meets-same (p.y a) (base t p a) b j, (agree a i).1, base_same a i, right-same a i, (agree b j).0)

  stem4-same : (a b : ℕ) → Is t a → Is t b → stem4 t p a b ≡ stem4 t q a b
  unfolding stem4
  stem4-same a b i j = cc (meets-same (base t p a +ℤ pos 1) (bottom t p a) b j, base_same a i, bottom-same a i, (agree a i).0, (agree b j).0)

  test-same : Sound t → (al r a b : ℕ) → Is t a → Is t b → test t p al r a b ≡ test t q al r a b
  unfolding test
  test-same sound al zero a b i j = refl
  test-same sound al (suc zero) a b i j = cc (kept1-same sound a i)
  test-same sound al (suc (suc zero)) a b i j = cc ((agree a i).0, (agree b j).0)
  test-same sound al (suc (suc (suc zero))) a b i j = cc (right-same a i, (agree a i).0, (agree b j).0)
  test-same sound al (suc (suc (suc (suc zero)))) a b i j = cc (box4-same a b i j, stem4-same a b i j)
  test-same sound al (suc (suc (suc (suc (suc zero))))) a b i j = cc (right-same a i, (agree b j).0)
  test-same sound al (suc (suc (suc (suc (suc (suc r)))))) a b i j = refl

  pub answer-same : Is t 0 → Sound t → (al : ℕ) → answer t p al ≡ answer t q al
  unfolding verdict
  answer-same o sound al = go (verdict t q al) refl (lowest-same (test t p al) (test t q al) (length t) (test-same sound al))
    where
      go : (v : Verdict) → verdict t q al ≡ v → verdict t p al ≡ verdict t q al → answer t p al ≡ answer t q al
      go kept e s = fine-answer t p al (s ∙ e) ∙ rw (width_same o, rows_same o) (sym (fine-answer t q al e))
      go (broken r a b) e s = faulty-answer t p al r a b (s ∙ e) ∙ sym (faulty-answer t q al r a b e)
