-- Laws of the definitions in specs/Chain.antt. Assumes nothing.
use Rattle.std.specs.Prelude.{◌≡◌, ◌≢◌, length, set, T}
use Rattle.std.proofs.Math.Path.{refl}
use Rattle.std.proofs.Common.{sym, ◌∙◌, inl, inr, zero-add, length-set, get_or-set_same, get_or-set_other}
use mathlib.Core.List.{List, [], ◌∷◌}
use Prim.Native.Nat.{ℕ, zero, suc, ◌+◌, ◌*◌, ◌≤◌, ◌<◌}
use native.Mathlib.Omega.{arith}
use Rattle.std.proofs.Math.Decide.{dec_le}
use Rattle.std.proofs.Math.ListN.{get_or, get_or-eq_default}
use Rattle.whole.proofs.Laws.Says.{says_le, is_true, is_false}
use Rattle.plan.specs.Limits.{most_cells}
use Rattle.plan.specs.Lists.{At, mem, insert}
use Rattle.plan.proofs.Laws.Lists.{mem-here, mem_there, mem_cases, mem-none, at_less, at_same, at_get_or}
use Rattle.plan.specs.Plan.{Table, Is, children}
use Rattle.plan.proofs.Laws.Plan.{child-read}
use Rattle.plan.proofs.Laws.Sort.{Ordered, before-once, insert-none, insert-stops, insert-goes_on}
use Rattle.links.specs.Links.{link, Links}
use Rattle.links.specs.Chain.{Chain, spell, seek, link_in}

module _ (ls : List ℕ) where
  pub spell-none : (k : ℕ) → spell ls k 0 ≡ []
  unfolding spell
  spell-none zero = refl
  spell-none (suc k) = refl

  pub spell-length : (k s : ℕ) → length (spell ls k s) ≤ k
  unfolding spell
  spell-length zero s = omega arith
  spell-length (suc k) zero = omega arith
  spell-length (suc k) (suc m) = omega (arith, spell-length k (link ls (suc m) 1))

  pub chain-spell : (k s : ℕ) (l : List ℕ) → Chain ls s l → length l ≤ k → spell ls k s ≡ l
  unfolding spell
  chain-spell zero s [] c h = refl
  chain-spell zero s (x ∷ l) c h = absurd (omega arith)
  chain-spell (suc k) zero [] c h = refl
  chain-spell (suc k) zero (x ∷ l) c h = absurd (omega (arith, c.is, c.some))
  chain-spell (suc k) (suc m) [] c h = absurd (omega (arith, c))
  chain-spell (suc k) (suc m) (x ∷ l) c h = rw (c.is, chain-spell k (link ls x 1) l c.rest (omega arith))

  -- one step along a chain that ends
  pub record Step (k s : ℕ) : Type 0 where
    pub few : s < most_cells
    pub is : spell ls k s ≡ s ∷ spell ls k (link ls s 1)
    pub rest : Chain ls (link ls s 1) (spell ls k (link ls s 1))

  pub step : (k s : ℕ) → 0 < s → Chain ls s (spell ls k s) → Step k s
  unfolding spell
  step zero zero h c = absurd (omega arith)
  step zero (suc m) h c = absurd (omega (arith, c))
  step (suc k) zero h c = absurd (omega arith)
  step (suc k) (suc m) h c =
      let n = link ls (suc m) 1 in
      let e : spell ls (suc k) n ≡ spell ls k n = chain-spell (suc k) n (spell ls k n) c.rest (omega (arith, spell-length k n)) in
      record { few = c.few; is = rw e; rest = rw e c.rest }

  -- ---- what stands at the places of a chain
  pub chain_first : (s : ℕ) (l : List ℕ) → Chain ls s l → s ≡ get_or l 0 0
  chain_first s [] c = c
  chain_first s (x ∷ l) c = c.is

  pub chain_next : (s : ℕ) (l : List ℕ) → Chain ls s l → (i x : ℕ) → At l i x → link ls x 1 ≡ get_or l (suc i) 0
  chain_next s [] c i x h = absurd h
  chain_next s (y ∷ l) c zero x h = rw h (chain_first (link ls y 1) l c.rest)
  chain_next s (y ∷ l) c (suc i) x h = chain_next (link ls y 1) l c.rest i x h

pub chain-mem : (ls : List ℕ) (s : ℕ) (l : List ℕ) → Chain ls s l → (x : ℕ) → T (mem x l) → x < most_cells
chain-mem ls s [] c x m = absurd (mem-none x m)
chain-mem ls s (y ∷ l) c x m = elim (mem_cases x y l m) [ inl e ↦ rw e c.few | inr k ↦ chain-mem ls (link ls y 1) l c.rest x k ]

-- a link that no cell of the chain has as its next sibling
abbrev pub Off : ℕ → List ℕ → Type 0
Off q l = (x : ℕ) → T (mem x l) → q ≢ 4 * x + 1

pub chain-other : (ls : List ℕ) (q v s : ℕ) (l : List ℕ) → Off q l → Chain ls s l → Chain (set ls q v) s l
chain-other ls q v s [] o c = c
chain-other ls q v s (x ∷ l) o c =
    let e : link (set ls q v) x 1 ≡ link ls x 1 = get_or-set_other ls q (4 * x + 1) v 0 (λ z. o x (mem-here x x l refl) (sym z)) in
    record { is = c.is; some = c.some; few = c.few; rest = rw e (chain-other ls q v (link ls x 1) l (λ y m. o y (mem_there y x l m)) c.rest) }

module _ (qs : List ℕ) (q : ℕ) where
  pub seek-none : (at : ℕ) → seek qs q at [] ≡ at
  unfolding seek
  seek-none at = refl

  pub seek-stops : (at s : ℕ) (l : List ℕ) → q ≤ get_or qs s 0 → seek qs q at (s ∷ l) ≡ at
  unfolding seek
  seek-stops at s l h = rw (is_true (says_le q (get_or qs s 0)) h)

  pub seek-goes_on : (at s : ℕ) (l : List ℕ) → get_or qs s 0 < q → seek qs q at (s ∷ l) ≡ seek qs q (4 * s + 1) l
  unfolding seek
  seek-goes_on at s l h = let n : ¬ (q ≤ get_or qs s 0) = λ k. omega arith in rw (is_false (says_le q (get_or qs s 0)) n)

  pub data Where (at : ℕ) (l : List ℕ) (r : ℕ) : Type 0 where
    head : r ≡ at → Where at l r
    after : (x : ℕ) → T (mem x l) → r ≡ 4 * x + 1 → Where at l r

  later : (at s r : ℕ) (l : List ℕ) → Where (4 * s + 1) l r → Where at (s ∷ l) r
  later at s r l (Where.head e) = Where.after s (mem-here s s l refl) e
  later at s r l (Where.after x m e) = Where.after x (mem_there x s l m) e

  pub seek_where : (at : ℕ) (l : List ℕ) → Where at l (seek qs q at l)
  seek_where at [] = Where.head (seek-none at)
  seek_where at (s ∷ l) = elim (dec_le q (get_or qs s 0)) [
    | yes h ↦ Where.head (seek-stops at s l h)
    | no h ↦ rw (seek-goes_on at s l (omega arith)) (later at s _ l (seek_where (4 * s + 1) l))
  ]

-- a chain that meets neither c nor the link stays
pub in_other : (ls : List ℕ) (c r s : ℕ) (l : List ℕ) → Off r l → Off (4 * c + 1) l → Chain ls s l → Chain (link_in ls c r) s l
in_other ls c r s l o p h = chain-other (set ls (4 * c + 1) (get_or ls r 0)) r c s l o (chain-other ls (4 * c + 1) (get_or ls r 0) s l p h)

-- the chain that begins at a link gets c where the order puts it
module _ (ls qs : List ℕ) (c : ℕ) (some : 0 < c) (few : c < most_cells) (room : 4 * most_cells ≤ length ls) where
  abbrev by : ℕ → ℕ
  by s = get_or qs s 0

  abbrev r : ℕ → List ℕ → ℕ
  r at l = seek qs (by c) at l

  -- at the link r itself stands c, and after c what stood there
  at-link : (r : ℕ) → r < length ls → get_or (link_in ls c r) r 0 ≡ c
  at-link r h = get_or-set_same (set ls (4 * c + 1) (get_or ls r 0)) r c 0 (simp length-set h)

  after-c : (r : ℕ) → 4 * c + 1 ≢ r → link (link_in ls c r) c 1 ≡ get_or ls r 0
  after-c r h = get_or-set_other (set ls (4 * c + 1) (get_or ls r 0)) r (4 * c + 1) c 0 h ∙ get_or-set_same ls (4 * c + 1) (get_or ls r 0) 0 (omega arith)

  elsewhere : (r at : ℕ) → at ≢ r → at ≢ 4 * c + 1 → get_or (link_in ls c r) at 0 ≡ get_or ls at 0
  elsewhere r at h k = get_or-set_other (set ls (4 * c + 1) (get_or ls r 0)) r at c 0 h ∙ get_or-set_other ls (4 * c + 1) at (get_or ls r 0) 0 k

  -- at the head
  put_first : (at : ℕ) (l : List ℕ) → at < length ls → at ≢ 4 * c + 1 → Off at l → Off (4 * c + 1) l → Chain ls (get_or ls at 0) l
      → Chain (link_in ls c at) (get_or (link_in ls c at) at 0) (c ∷ l)
  put_first at l h k o p ch =
      record { is = at-link at h; some = some; few = few; rest = rw (after-c at (λ e. k (sym e))) (in_other ls c at (get_or ls at 0) l o p ch) }

  -- the same chain, its link and its cells by other names
  same : (r₁ r₂ at : ℕ) (xs ys : List ℕ) → r₁ ≡ r₂ → xs ≡ ys → Chain (link_in ls c r₂) (get_or (link_in ls c r₂) at 0) ys
      → Chain (link_in ls c r₁) (get_or (link_in ls c r₁) at 0) xs
  same r₁ r₂ at xs ys e f ch = rw (e, f) ch

  pub chain-insert : (at : ℕ) (l : List ℕ) → at < length ls → at ≢ 4 * c + 1 → Off at l → Off (4 * c + 1) l → Ordered by l → Chain ls (get_or ls at 0) l
      → Chain (link_in ls c (r at l)) (get_or (link_in ls c (r at l)) at 0) (insert by c l)
  chain-insert at [] h k o p ord ch = rw (insert-none by c, seek-none qs (by c) at) (put_first at [] h k o p ch)
  chain-insert at (s ∷ l) h k o p ord ch = go (dec_le (by c) (by s)) (chain-insert (4 * s + 1) l (omega (arith, ch.few)) (λ e. p s (mem-here s s l refl) (sym e)) off (λ x m. p x (mem_there x s l m)) ord.1 ch.rest)
    where
      off : Off (4 * s + 1) l
      off x m = let e = before-once by s x (ord.0 x m) in omega arith

      -- the link is not at
      away : Where qs (by c) (4 * s + 1) l (r (4 * s + 1) l) → at ≢ r (4 * s + 1) l
      away (Where.head e) z = o s (mem-here s s l refl) (z ∙ e)
      away (Where.after x m e) z = o x (mem_there x s l m) (z ∙ e)

      go : Dec (by c ≤ by s) → Chain (link_in ls c (r (4 * s + 1) l)) (get_or (link_in ls c (r (4 * s + 1) l)) (4 * s + 1) 0) (insert by c l)
          → Chain (link_in ls c (r at (s ∷ l))) (get_or (link_in ls c (r at (s ∷ l))) at 0) (insert by c (s ∷ l))
      go (yes z) ih = same _ at at _ (c ∷ s ∷ l) (seek-stops qs (by c) at s l z) (insert-stops by c s l z) (put_first at (s ∷ l) h k o p ch)
      go (no z) ih =
          let m : by s < by c = omega arith in
          same _ (r (4 * s + 1) l) at _ (s ∷ insert by c l) (seek-goes_on qs (by c) at s l m) (insert-goes_on by c s l m)
          (record { is = elsewhere (r (4 * s + 1) l) at (away (seek_where qs (by c) (4 * s + 1) l)) k ∙ ch.is; some = ch.some; few = ch.few; rest = ih })

-- ---- the links of a table spell its children
module _ (t : Table) (few : length t ≤ most_cells) (ls : List ℕ) (h : Links t ls) (f : ℕ) where
  chain-from : (o : ℕ) (cs : List ℕ) → ((i s : ℕ) → At cs i s → At (children t f) (o + i) s) → get_or (children t f) (o + length cs) 0 ≡ 0 → Chain ls (get_or cs 0 0) cs
  chain-from o [] on last = refl
  chain-from o (s ∷ cs) on last =
      let a : At (children t f) o s = let z : o + 0 ≡ o = omega arith in rw z at (on 0 s refl) in
      let c = child-read t f o s a in
      let next : link ls s 1 ≡ get_or cs 0 0 = h.next f o s a ∙ after cs (λ i x k. let z : o + suc i ≡ suc o + i = omega arith in rw z at (on (suc i) x k)) (let z : o + suc (length cs) ≡ suc o + length cs = omega arith in rw z at last) in
      record {
        is = refl;
        some = c.low;
        few = omega (arith, c.is, few);
        rest = rw next (chain-from (suc o) cs (λ i x k. let z : o + suc i ≡ suc o + i = omega arith in rw z at (on (suc i) x k)) (let z : o + suc (length cs) ≡ suc o + length cs = omega arith in rw z at last));
      }
    where
      after : (cs : List ℕ) → ((i x : ℕ) → At cs i x → At (children t f) (suc o + i) x) → get_or (children t f) (suc o + length cs) 0 ≡ 0 → get_or (children t f) (suc o) 0 ≡ get_or cs 0 0
      after [] k z = let e : suc o + 0 ≡ suc o = omega arith in rw e at z
      after (x ∷ cs) k z =
          let e : suc o + 0 ≡ suc o = omega arith in
          let a = rw e at (k 0 x refl) in
          at_same (children t f) (suc o) _ x (at_get_or (children t f) (suc o) 0 (at_less (children t f) (suc o) x a)) a

  pub children-chain : Is t f → Chain ls (link ls f 0) (children t f)
  children-chain i =
      rw (h.first f i)
      (chain-from 0 (children t f) (λ i s a. rw (zero-add i) a) (get_or-eq_default (children t f) 0 (omega arith)))
