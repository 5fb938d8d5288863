-- What stands in a joined table: its cells and their children. Assumes nothing.
use Rattle.std.specs.Prelude.{◌≡◌, refl, ◌≢◌, get_or, T}
use Rattle.std.proofs.Math.Path.{ap}
use Rattle.std.proofs.Common.{◌∙◌}
use mathlib.Core.List.{List, [], ◌∷◌, map, ◌++◌, append-nil, map-append}
use Rattle.std.proofs.Math.Bool.{Bool, false, true}
use Prim.Native.Nat.{ℕ, zero, suc, pred, ◌+◌, ◌-◌, ◌≤◌, ◌<◌}
use native.Mathlib.Omega.{arith}
use Rattle.std.proofs.Math.Decide.{ℕ_discrete, dec_lt}
use Rattle.std.proofs.Math.ListN.{length}
use Rattle.std.proofs.lemmas.List.{length-map}
use Rattle.std.proofs.Math.Dec.{eqb}
use borrow.Author.Tests.{eq-eqb, ne_eqb}
use Rattle.plan.specs.Lists.{from, keep, mem}
use Rattle.plan.proofs.Laws.Lists.{keep-read, from-read}
use Rattle.plan.proofs.Laws.Sort.{sort-same}
use Rattle.plan.specs.Plan.{Cell, Table, Is, Sound, blank, parent, kind, box_width, box_depth, rank, filed, children}
use Rattle.plan.specs.Records.{bare, cells_of}
use Rattle.plan.specs.declared.Record.{Record}
use Rattle.graft.specs.Joined.{raised, hung, hung_behind, cell_under, record_under, joined, joined_records}
use Rattle.graft.proofs.Laws.Hung.{length_behind, behind_first, behind_root, behind_later}
use Rattle.graft.proofs.Laws.Lists.{from_split, keep-after, keep_same, keep-none, keep-raised, up, eqb_raised, sort-raised}

abbrev father : Cell → ℕ
father x = x.parent

-- ---- the records that are written hold the joined table
hung-cells : (n c : ℕ) (u : List Record) → map bare (hung (λ (x : Record). x.parent) record_under n c u) ≡ hung father cell_under n c (map bare u)
unfolding hung raised bare cell_under record_under
hung-cells n c [] = refl
hung-cells n c (x ∷ u) = ap (λ (l : Table). cell_under c (bare x) ∷ l) (rest u)
  where
    rest : (u : List Record) → map bare (map (raised (λ (x : Record). x.parent) record_under n) u) ≡ map (raised father cell_under n) (map bare u)
    rest [] = refl
    rest (y ∷ u) = ap (λ (l : Table). raised father cell_under n (bare y) ∷ l) (rest u)

pub joined-cells : (t u : List Record) (c : ℕ) → cells_of (joined_records t u c) ≡ joined (cells_of t) (cells_of u) c
unfolding cells_of joined_records joined hung_behind
joined-cells t u c = map-append bare t _ ∙ rw (hung-cells (length t) c u, length-map t bare)

-- ---- cells
module _ (t u : Table) (c : ℕ) where
  pub length-joined : length (joined t u c) ≡ length t + length u
  unfolding joined
  length-joined = length_behind father cell_under t u c

  first_cell : (a : ℕ) → Is t a → get_or (joined t u c) a blank ≡ get_or t a blank
  unfolding joined
  first_cell a i = behind_first father cell_under t u c blank a i

  root_cell : 1 ≤ length u → get_or (joined t u c) (length t + 0) blank ≡ cell_under c (get_or u 0 blank)
  unfolding joined
  root_cell h = behind_root father cell_under t u c blank h

  second-cell : (b : ℕ) → 1 ≤ b → Is u b → get_or (joined t u c) (length t + b) blank ≡ raised father cell_under (length t) (get_or u b blank)
  unfolding joined
  second-cell b l h = behind_later father cell_under t u c blank b l h

  -- the first's cells as they were
  pub first-parent : (a : ℕ) → Is t a → parent (joined t u c) a ≡ parent t a
  unfolding parent
  first-parent a i = ap (λ (x : Cell). x.parent) (first_cell a i)

  pub first_kind : (a : ℕ) → Is t a → kind (joined t u c) a ≡ kind t a
  unfolding kind
  first_kind a i = ap (λ (x : Cell). x.kind) (first_cell a i)

  pub first_width : (a : ℕ) → Is t a → box_width (joined t u c) a ≡ box_width t a
  unfolding box_width
  first_width a i = ap (λ (x : Cell). x.width) (first_cell a i)

  pub first_depth : (a : ℕ) → Is t a → box_depth (joined t u c) a ≡ box_depth t a
  unfolding box_depth
  first_depth a i = ap (λ (x : Cell). x.depth) (first_cell a i)

  pub first-rank : (a : ℕ) → Is t a → rank (joined t u c) a ≡ rank t a
  unfolding rank
  first-rank a i = ap (λ (x : Cell). x.rank) (first_cell a i)

  -- the second's, but for their parents
  pub root_parent : 1 ≤ length u → parent (joined t u c) (length t) ≡ c
  unfolding parent cell_under
  root_parent h = let e : length t + 0 ≡ length t = omega arith in rw e at (ap (λ (x : Cell). x.parent) (root_cell h))

  pub second-parent : (b : ℕ) → 1 ≤ b → Is u b → parent (joined t u c) (length t + b) ≡ length t + parent u b
  unfolding parent raised cell_under
  second-parent b l i = ap (λ (x : Cell). x.parent) (second-cell b l i)

  second-kept : {A : Type 0} (f : Cell → A) → ((p : ℕ) (x : Cell) → f (cell_under p x) ≡ f x) → (b : ℕ) → Is u b → f (get_or (joined t u c) (length t + b) blank) ≡ f (get_or u b blank)
  unfolding raised
  second-kept f h zero i = ap f (root_cell i) ∙ h c (get_or u 0 blank)
  second-kept f h (suc b) i = ap f (second-cell (suc b) (omega arith) i) ∙ h (length t + (get_or u (suc b) blank).parent) (get_or u (suc b) blank)

  pub second-kind : (b : ℕ) → Is u b → kind (joined t u c) (length t + b) ≡ kind u b
  unfolding kind cell_under
  second-kind = second-kept (λ (x : Cell). x.kind) (λ p x. refl)

  pub second-width : (b : ℕ) → Is u b → box_width (joined t u c) (length t + b) ≡ box_width u b
  unfolding box_width cell_under
  second-width = second-kept (λ (x : Cell). x.width) (λ p x. refl)

  pub second_depth : (b : ℕ) → Is u b → box_depth (joined t u c) (length t + b) ≡ box_depth u b
  unfolding box_depth cell_under
  second_depth = second-kept (λ (x : Cell). x.depth) (λ p x. refl)

  pub second-rank : (b : ℕ) → Is u b → rank (joined t u c) (length t + b) ≡ rank u b
  unfolding rank cell_under
  second-rank = second-kept (λ (x : Cell). x.rank) (λ p x. refl)

-- ---- parents and children
pub filed-is : (t : Table) (c s : ℕ) → 1 ≤ length t → T (mem s (filed t c)) → Is t s
unfolding filed
filed-is t c s l m = omega (arith, from-read 1 (pred (length t)) s (keep-read (λ s. eqb (parent t s) c) (from 1 (pred (length t))) s m).there)

module _ (t u : Table) (st : Sound t) (some_first : 1 ≤ length t) (some_second : 1 ≤ length u) (c : ℕ) (at : Is t c) where
  abbrev J : Table
  J = joined t u c

  -- every cell from 1 to the last, in three runs
  runs : from 1 (pred (length J)) ≡ from 1 (pred (length t)) ++ (length t ∷ from (length t + 1) (pred (length u)))
  unfolding from
  runs =
      let e : pred (length J) ≡ pred (length t) + suc (pred (length u)) = omega (arith, length-joined t u c) in
      let n : 1 + pred (length t) ≡ length t = omega arith in
      let m : suc (length t) ≡ length t + 1 = omega arith in
      rw e (rw (n, m) at (from_split 1 (pred (length t)) (suc (pred (length u)))))

  kept : (f : ℕ → Bool) → keep f (from 1 (pred (length J))) ≡ keep f (from 1 (pred (length t))) ++ keep f (length t ∷ from (length t + 1) (pred (length u)))
  kept f = rw runs (keep-after f (from 1 (pred (length t))) (length t ∷ from (length t + 1) (pred (length u))))

  -- the children of a that were in the first
  among_first : (a : ℕ) → keep (λ s. eqb (parent J s) a) (from 1 (pred (length t))) ≡ filed t a
  unfolding filed
  among_first a = keep_same _ (λ s. eqb (parent t s) a) 1 (pred (length t)) (λ s l h. ap (λ (x : ℕ). eqb x a) (first-parent t u c s (omega arith)))

  -- none of the second's but its root is a child of a cell of the first
  none-second : (a : ℕ) → Is t a → keep (λ s. eqb (parent J s) a) (from (length t + 1) (pred (length u))) ≡ []
  none-second a i = keep-raised _ (λ s. false) (length t) 1 (pred (length u)) (λ s l h. ne_eqb _ _ (λ (e : parent J (length t + s) ≡ a). omega (arith, second-parent t u c s l (omega arith))))
      ∙ ap (up (length t)) (keep-none (λ s. false) 1 (pred (length u)) (λ s l h. refl))

  -- in file order: a cell of the first that is not c has the children it had; c has the second's root behind them; a cell of the second has those it had, raised
  first-filed : (a : ℕ) → Is t a → a ≢ c → filed J a ≡ filed t a
  unfolding filed keep
  first-filed a i n =
      let q : eqb (parent J (length t)) a ≡ false = ne_eqb _ _ (λ (e : parent J (length t) ≡ a). n (omega (arith, root_parent t u c some_second))) in
      kept (λ s. eqb (parent J s) a) ∙ rw (q, none-second a i, among_first a) (append-nil (filed t a))

  pub named-filed : filed J c ≡ filed t c ++ (length t ∷ [])
  unfolding filed keep
  named-filed =
      let q : eqb (parent J (length t)) c ≡ true = eq-eqb _ _ (root_parent t u c some_second) in
      kept (λ s. eqb (parent J s) c) ∙ rw (q, none-second c at, among_first c)

  second-filed : (b : ℕ) → Is u b → filed J (length t + b) ≡ up (length t) (filed u b)
  unfolding filed keep
  second-filed b i =
      let f : ℕ → Bool = λ s. eqb (parent J s) (length t + b) in
      let p : keep f (from 1 (pred (length t))) ≡ []
      = keep-none f 1 (pred (length t)) (λ s l h. ne_eqb _ _ (λ (e : parent J s ≡ length t + b). omega (arith, first-parent t u c s (omega arith), st s l (omega arith)))) in
      let q : f (length t) ≡ false = ne_eqb _ _ (λ (e : parent J (length t) ≡ length t + b). omega (arith, root_parent t u c some_second)) in
      let r : keep f (from (length t + 1) (pred (length u))) ≡ up (length t) (keep (λ s. eqb (parent u s) b) (from 1 (pred (length u))))
      = keep-raised f (λ s. eqb (parent u s) b) (length t) 1 (pred (length u)) (λ s l h. rw (second-parent t u c s l (omega arith)) (eqb_raised (length t) (parent u s) b)) in
      kept f ∙ rw (p, q, r)

  -- and so by rank
  pub first-children : (a : ℕ) → Is t a → a ≢ c → children J a ≡ children t a
  unfolding children
  first-children a i n = rw (first-filed a i n) (sort-same (rank J) (rank t) (filed t a) (λ s m. first-rank t u c s (filed-is t a s some_first m)))

  pub second-children : (b : ℕ) → Is u b → children J (length t + b) ≡ up (length t) (children u b)
  unfolding children
  second-children b i = rw (second-filed b i) (sort-raised (rank J) (rank u) (length t) (filed u b) (λ s m. second-rank t u c s (filed-is u b s some_second m)))

  -- parents are lower in the joined table too
  pub joined-sound : Sound u → Sound J
  joined-sound su s l h = go (dec_lt s (length t)) (ℕ_discrete s (length t))
    where
      later : (b : ℕ) → 1 ≤ b → s ≡ length t + b → parent J s < s
      later b p e = let i : Is u b = omega (arith, length-joined t u c) in rw e (omega (arith, second-parent t u c b p i, su b p i))

      go : Dec (s < length t) → Dec (s ≡ length t) → parent J s < s
      go (yes i) d = omega (arith, first-parent t u c s i, st s l i)
      go (no i) (yes e) = rw e (omega (arith, root_parent t u c some_second))
      go (no i) (no e) = later (s - length t) (omega arith) (omega arith)
