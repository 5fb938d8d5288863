-- What Layout answers where no question refuses, and where one does; sheets that are alike. Nothing that a reader must believe stands here. Assumes nothing.
use Rattle.std.specs.Prelude.{◌≡◌, refl, List, [], ◌∷◌, ℕ, zero, suc, ◌≤◌, length, T, ℤ, ◌-ℤ◌, Result, Err}
use Rattle.std.proofs.Common.{sym, ap, ◌∙◌}
use Rattle.whole.specs.Whole.{plus}
use Rattle.whole.proofs.Laws.Whole.{whole}
use Rattle.plan.specs.Lists.{At}
use Rattle.plan.specs.Plan.{Table, Is, Sound, within}
use Rattle.plan.proofs.Laws.Paths.{child_less}
use Rattle.plan.specs.Questions.{layout, none, refusal, layout_given}
use Rattle.plan.specs.declared.Refusal.{Refusal}
use Rattle.plan.specs.declared.Measures.{Measures}
use Rattle.plan.proofs.Laws.Answered.{answered_none, answered_some}
use Rattle.rules.specs.Placement.{placed, Agree, width, rows}
use Rattle.contours.specs.Sheet.{sheet}
use Rattle.least.specs.Alike.{Alike, Twins}
use Rattle.least.specs.NoLess.{NoLess}
use Rattle.least.proofs.Theorems.{alike, alike_whole}
use Rattle.least.proofs.Laws.Twins.{alike_turned}
use Rattle.least.proofs.Laws.Wider.{keeps_wider}
use Rattle.positions.proofs.Laws.Written.{written_agree}
use Rattle.layout.specs.Laid.{laid_of, positions_after, scratch_after, Lays}
use Rattle.layout.proofs.Laws.Laid.{sheet-asks, sheet-wide, sheet-deep}
use Rattle.layout.proofs.Laws.Promised.{promised}
use Rattle.demands.specs.Outcomes.{sheet_of, Gives, PlacedTwin}

module _ (t : Table) (al : ℕ) (s s' : List ℕ) (ps ps' : List ℤ) (r : Result Measures Refusal) (l : Lays t al s s' ps ps' r) where
  abbrev why : Refusal
  why = refusal layout (layout_given t al (length s) (length ps))

  pub gives : why ≡ none → Gives t al s s' ps ps' r
  unfolding laid_of positions_after scratch_after
  gives z =
      let w = plus (width t (sheet t al)) in
      let h = plus (rows t (sheet t al)) in
      let e : r ≡ sheet_of w h = l.answers ∙ answered_none why _ (ap (λ (x : Refusal). x.number) z) in
      let f : Lays t al s s' ps ps' (sheet_of w h) = rw e at l in
      record {
        w = w;
        h = h;
        answers = e;
        wide = sheet-wide t al s s' ps ps' _ f;
        deep = sheet-deep t al s s' ps ps' _ f;
        positions = f.positions;
        scratch = f.scratch;
      }

  pub unchanged : ¬ (why.number ≡ 0) → (r ≡ Err why) × (ps' ≡ ps) × (s' ≡ s)
  unfolding laid_of positions_after scratch_after
  unchanged z =
      let e : r ≡ Err why = l.answers ∙ answered_some why _ z in
      (e, l.positions ∙ rw e, l.scratch ∙ rw e)

-- ---- twins are cells, where the tops are
module _ (t u : Table) (st : Sound t) (su : Sound u) where
  twins_are : {cs ds : List ℕ} {c d : ℕ} → Twins t u cs ds c d → ((i s : ℕ) → At cs i s → Is t s) → ((i s : ℕ) → At ds i s → Is u s) → Is t c × Is u d
  twins_are (Twins.here {a = a} {b = b}) h k = (h 0 a refl, k 0 b refl)
  twins_are (Twins.under {a = a} {b = b} w) h k = twins_are w (λ i s z. (child_less t st a i s z).1) (λ i s z. (child_less u su b i s z).1)
  twins_are (Twins.later w) h k = twins_are w (λ i. h (suc i)) (λ i. k (suc i))

-- ---- two sheets that Layout wrote
pub sheet-written : (t : Table) (al : ℕ) (s s' : List ℕ) (ps ps' : List ℤ) (w h : ℕ) → Lays t al s s' ps ps' (sheet_of w h) → Agree t (placed ps') (sheet t al)
unfolding positions_after
sheet-written t al s s' ps ps' w h l = rw l.positions (written_agree (sheet t al) t ps)

module _ (t u : Table) (al : ℕ) (s s' v v' : List ℕ) (ps ps' qs qs' : List ℤ) (w h y k : ℕ)
    (l : Lays t al s s' ps ps' (sheet_of w h)) (m : Lays u al v v' qs qs' (sheet_of y k)) where
  pub alike_written : (a b : ℕ) → Is t a → Is u b → Alike t u (a ∷ []) (b ∷ []) → (c d : ℕ) → Twins t u (a ∷ []) (b ∷ []) c d
      → ((placed ps').x c -ℤ (placed ps').x a ≡ (placed qs').x d -ℤ (placed qs').x b) × ((placed ps').y c -ℤ (placed ps').y a ≡ (placed qs').y d -ℤ (placed qs').y b)
  alike_written a b ia ib e c d q =
      let st = (sheet-asks t al s s' ps ps' _ l).table.fit.sound in
      let su = (sheet-asks u al v v' qs qs' _ m).table.fit.sound in
      let f = sheet-written t al s s' ps ps' w h l in
      let g = sheet-written u al v v' qs qs' y k m in
      let (ic, id) = twins_are t u st su q (only ia) (only' ib) in
      let (x, z) = alike t u st su al a b e c d q in
      (rw ((f c ic).0, (f a ia).0, (g d id).0, (g b ib).0) x, rw ((f c ic).1, (f a ia).1, (g d id).1, (g b ib).1) z)
    where
      only : Is t a → (i s : ℕ) → At (a ∷ []) i s → Is t s
      only j zero s z = rw z j
      only j (suc i) s z = absurd z

      only' : Is u b → (i s : ℕ) → At (b ∷ []) i s → Is u s
      only' j zero s z = rw z j
      only' j (suc i) s z = absurd z

-- every cell of the one subtree, and its only twin
twin_placed : (t u : Table) (al : ℕ) (s s' v v' : List ℕ) (ps ps' qs qs' : List ℤ) (w h y k : ℕ) → Lays t al s s' ps ps' (sheet_of w h) → Lays u al v v' qs qs' (sheet_of y k)
    → (a b : ℕ) → Is t a → Is u b → Alike t u (a ∷ []) (b ∷ []) → (c : ℕ) → Is t c → T (within t a c) → PlacedTwin t u (placed ps') (placed qs') a b c
twin_placed t u al s s' v v' ps ps' qs qs' w h y k l m a b ia ib e c ic n =
    let st = (sheet-asks t al s s' ps ps' _ l).table.fit.sound in
    let su = (sheet-asks u al v v' qs qs' _ m).table.fit.sound in
    let z = (alike_whole t u st su a b ia ib e).0 c ic n in
    let f = alike_written t u al s s' v v' ps ps' qs qs' w h y k l m a b ia ib e c z.cell z.twins in
    record { twin = z; across = f.0; down = f.1 }

pub alike_whole_written : (t u : Table) (al : ℕ) (s s' v v' : List ℕ) (ps ps' qs qs' : List ℤ) (w h y k : ℕ) → Lays t al s s' ps ps' (sheet_of w h) → Lays u al v v' qs qs' (sheet_of y k)
    → (a b : ℕ) → Is t a → Is u b → Alike t u (a ∷ []) (b ∷ [])
    → ((c : ℕ) → Is t c → T (within t a c) → PlacedTwin t u (placed ps') (placed qs') a b c) × ((d : ℕ) → Is u d → T (within u b d) → PlacedTwin u t (placed qs') (placed ps') b a d)
alike_whole_written t u al s s' v v' ps ps' qs qs' w h y k l m a b ia ib e = (
  twin_placed t u al s s' v v' ps ps' qs qs' w h y k l m a b ia ib e,
  twin_placed u t al v v' s s' qs qs' ps ps' y k w h m l b a ib ia (alike_turned e),
)

-- ---- one table at two allowances
module _ (t : Table) (al al' : ℕ) (less : al ≤ al') (s s' v v' : List ℕ) (ps ps' qs qs' : List ℤ) (w h y k : ℕ)
    (l : Lays t al s s' ps ps' (sheet_of w h)) (m : Lays t al' v v' qs qs' (sheet_of y k)) where
  pub wider_written : (y ≤ w) × (k ≡ h) × NoLess t (placed qs') (placed ps')
  wider_written =
      let p = promised t al s s' ps ps' _ l in
      let q = promised t al' v v' qs qs' _ m in
      let n = q.least (placed ps') (keeps_wider t (placed ps') al al' less p.keeps) in
      (omega (whole, n.wide, p.wide, q.wide), ap plus (sym q.deep ∙ sym n.deep ∙ p.deep), n)
