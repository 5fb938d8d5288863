-- One step over columns. Nothing that a reader must believe stands here. Assumes nothing.
use Rattle.std.specs.Prelude.{◌≡◌, refl, ◌≢◌, ◌⊎◌, Bool, true, false, Ok, Err, ℕ, zero, suc, ◌≤◌, ◌<◌, length, get_or}
use Rattle.std.proofs.Common.{◌∙◌, sym, inl, inr, arith}
use Rattle.std.proofs.Math.Path.{ap, subst}
use mathlib.Core.List.{List}
use Rattle.std.proofs.Math.ListN.{set}
use Rattle.joining.specs.Joining.{Memory, memory_of}
use Rattle.links.specs.Links.{Links}
use Rattle.marks.proofs.Laws.Marks.{Long}
use Rattle.plan.specs.Columns.{table_of}
use Rattle.plan.specs.Fit.{Fit}
use Rattle.plan.specs.Limits.{scratch_size, second_size}
use Rattle.plan.specs.Lists.{At}
use Rattle.plan.specs.Plan.{Table, Is, Sound, parent, children, level, row}
use Rattle.plan.specs.Trees.{Column}
use Rattle.plan.specs.declared.Columns.{Columns}
use Rattle.plan.proofs.Laws.Plan.{child_show}
use Rattle.plan.proofs.Laws.Paths.{row_suc}
use Rattle.plan.proofs.Laws.Tables.{length-is, parent_is, width_is, depth_is}
use Rattle.plan.proofs.Laws.Trees.{level_suc}
use Rattle.walk.specs.Machine.{Chart, chart, wide, deep, top, closed, root_closed, Closing, Ending}
use Rattle.walk.specs.Walked.{Suits}
use Rattle.finishing_order.specs.Postorder.{postorder}
use Rattle.finishing_cell.specs.Made.{finishes, worked, made}
use Rattle.finishing_guard.specs.Guard.{count_at}
use Rattle.finishing_cell.proofs.Laws.Passed.{Ready, closes}
use Rattle.finishing_cell.proofs.Laws.Whole.{ready, one_more, ended}
use Rattle.finishing_cell.proofs.Laws.Final.{worked-long, count_out}
use Rattle.finishing_order.specs.Order.{nth}
use Rattle.finishing_order.proofs.Laws.Order.{nth_is, nth_in}
use Rattle.finishing_guard.specs.Guard.{Guards, advanced, Static, Finished}
use Rattle.finishing_cell.specs.Taking.{up_of, Took}
use Rattle.finishing_guard.proofs.Laws.Guard.{bool_apart, set_guard, closing_guard, ending_guard}

pub up_root : (ps : List ℕ) (c : ℕ) → c ≡ 0 → up_of ps c ≡ 0
unfolding up_of
up_root ps c e = rw e

pub up-child : (ps : List ℕ) (c : ℕ) → 1 ≤ c → up_of ps c ≡ get_or ps c 0
unfolding up_of
up-child ps zero l = absurd (omega arith)
up-child ps (suc p) l = refl

zero_or : (c : ℕ) → (c ≡ 0) ⊎ (1 ≤ c)
zero_or zero = inl refl
zero_or (suc p) = inr (omega arith)

level_zero : (t : Table) → level t 0 ≤ 30
unfolding level
level_zero t = omega arith

level-up : (t : Table) → Sound t → (c : ℕ) → 1 ≤ c → level t c ≡ suc (level t (parent t c))
level-up t sound zero l = absurd (omega arith)
level-up t sound (suc m) l = level_suc t sound m

root_is : (t : Table) (b : Chart) → Suits t b → (m : Memory) → root_closed m (deep b 0) (wide b 0) ≡ finishes t b.allowance 0 m
unfolding finishes
root_is t b su m = rw (su.deep_of 0 su.fit.some_cell, su.wide_of 0 su.fit.some_cell)

taken_out : (t : Table) → Sound t → (al k : ℕ) (xs ms : List ℕ) → memory_of xs ms ≡ made t al k → memory_of (set xs count_at 0) ms ≡ worked t al k
taken_out t sound al k xs ms e =
    let r : xs ≡ (made t al k).rows = ap (λ (m : Memory). m.rows) e in
    let q : ms ≡ (worked t al k).marks = unfold made in ap (λ (m : Memory). m.marks) e in
    (λ i. memory_of ((ap (λ (z : List ℕ). set z count_at 0) r ∙ count_out t sound al k) i) (q i))

module _ (t : Columns) (fit : Fit (table_of t)) (long : Long t) (tops levels ls : List ℕ) (ct : Column tops t.count (row (table_of t))) (cl : Column levels t.count (level (table_of t)))
    (links : Links (table_of t) ls) (al : ℕ) where
  abbrev tab : Table
  tab = table_of t

  abbrev ps : List ℕ
  ps = t.parent

  count : length tab ≡ t.count
  count = length-is t

  up : (c : ℕ) → Is tab c → get_or ps c 0 ≡ parent tab c
  up c i = sym (parent_is t c (omega (arith, length-is t)))

  abbrev b : Chart
  b = chart ls t.width t.depth tops al

  pub suits : Suits tab b
  suits =
      record {
        fit = fit;
        links = links;
        widths = long.widths;
        depths = long.depths;
        tops = omega (arith, ct.long);
        wide_of = λ c i. sym (width_is t c (omega (arith, length-is t)));
        deep_of = λ c i. sym (depth_is t c (omega (arith, length-is t)));
        top_of = λ c i. ct.each c (omega (arith, count));
      }

  module _ (k : ℕ) (k-less : k < t.count) (c f lv : ℕ) (ec : c ≡ nth ls ps k) (ef : f ≡ up_of ps c) (el : lv ≡ get_or levels f 0) (xs ms : List ℕ) (lx : length xs ≡ scratch_size) (lm : length ms ≡ second_size) where
    k_in : k < length tab
    k_in = omega (arith, count)

    is : Is tab c
    is = rw ec (nth_in tab fit ls ps links up k k_in)

    cell : c ≡ get_or (postorder tab) k 0
    cell = ec ∙ nth_is tab fit ls ps links up k k_in

    f-of : 1 ≤ c → f ≡ parent tab c
    f-of l = ef ∙ up-child ps c l ∙ up c is

    f_root : c ≡ 0 → f ≡ 0
    f_root e = ef ∙ up_root ps c e

    f-is : f ≤ c
    f-is = elim (zero_or c) [ inl e ↦ omega (arith, f_root e) | inr l ↦ omega (arith, f-of l, fit.sound c l is) ]

    lv_is : lv ≡ level tab f
    lv_is = el ∙ cl.each f (omega (arith, count, f-is, is))

    lv_low : lv ≤ 30
    lv_low = elim (zero_or c) [
      | inl e ↦ rw (lv_is, f_root e) (level_zero tab)
      | inr l ↦ rw (lv_is, f-of l) (omega (arith, level-up tab fit.sound c l, fit.not_too_low c is))
    ]

    below_row : (c : ℕ) → 1 ≤ c → 1 ≤ row tab c
    below_row zero l = absurd (omega arith)
    below_row (suc p) l = omega (arith, row_suc tab fit.sound p)

    pub static : Static b lv f c xs ms
    static =
        record {
          links = links.size;
          widths = long.widths;
          depths = long.depths;
          tops = omega (arith, ct.long);
          small = omega (arith, is, fit.not_too_many);
          smallf = omega (arith, f-is, is, fit.not_too_many);
          shallow = lv_low;
          other = λ l e. omega (arith, e, f-of l, fit.sound c l is);
          narrow = omega (arith, suits.wide_of c is, fit.wide c is);
          fits = omega (arith, suits.top_of c is, suits.deep_of c is, fit.rows_few c is);
          under = λ l. omega (arith, suits.top_of c is, below_row c l);
          rows = lx;
          marks = lm;
        }

    -- the guard does not fire
    guard_worked : Guards (worked tab al k).rows (worked tab al k).marks c f (deep b c) (top b c)
    guard_worked = go c (sym cell) refl
      where
        w : Memory
        w = worked tab al k

        go : (z : ℕ) → get_or (postorder tab) k 0 ≡ z → z ≡ c → Guards (worked tab al k).rows (worked tab al k).marks c f (deep b c) (top b c)
        go zero e q =
            let r : Ending b (worked tab al k) = subst (λ (x : ℕ). Ready tab b x (worked tab al k)) e (ready tab b suits k k_in) in
            let g = ending_guard b (worked tab al k).rows (worked tab al k).marks (worked-long tab al k).rows r in
            subst (λ (x : ℕ). Guards (worked tab al k).rows (worked tab al k).marks x f (deep b x) (top b x)) q g
        go (suc p) e q =
            let r : Closing b (level tab (parent tab (suc p))) (parent tab (suc p)) (suc p) (worked tab al k).rows (worked tab al k).marks =
            subst (λ (x : ℕ). Ready tab b x (worked tab al k)) e (ready tab b suits k k_in) in
            let lo : 1 ≤ c = omega arith in
            let fe : f ≡ parent tab (suc p) = f-of lo ∙ ap (parent tab) (sym q) in
            let ne : parent tab (suc p) ≢ suc p = (λ z. omega (arith, z, fe, q, f-of lo, fit.sound c lo is)) in
            let g = closing_guard b (worked tab al k).rows (worked tab al k).marks (worked-long tab al k).rows (level tab (parent tab (suc p))) (parent tab (suc p)) (suc p) ne r in
            subst (λ (x : ℕ). Guards (worked tab al k).rows (worked tab al k).marks x f (deep b x) (top b x)) q (rw fe g)

    guard_made : memory_of xs ms ≡ made tab al k → Guards xs ms c f (deep b c) (top b c)
    unfolding made
    guard_made e =
        let g = set_guard (worked tab al k).rows (worked tab al k).marks c f (deep b c) (top b c) k static.under guard_worked in
        subst (λ (m : Memory). Guards m.rows m.marks c f (deep b c) (top b c)) (sym e) g

    -- what is finished is what the definition says
    advanced-is : (m : Memory) → advanced b lv f c m ≡ finishes tab al c m
    advanced-is m = go c refl
      where
        go : (z : ℕ) → z ≡ c → advanced b lv f z m ≡ finishes tab al z m
        go zero q = root_is tab b suits m
        go (suc p) q =
            let lo : 1 ≤ c = omega arith in
            let fe : f ≡ parent tab c = f-of lo in
            let (i, a) = child_show tab (parent tab c) c (record { low = lo; is = is; of = refl }) in
            let a' : At (children tab f) i (suc p) = subst (λ (x : ℕ). At (children tab x) i (suc p)) (sym fe) (subst (λ (z : ℕ). At (children tab (parent tab c)) i z) (sym q) a) in
            subst (λ (v : ℕ). closed b v f (suc p) m ≡ finishes tab al (suc p) m) (sym lv_is) (closes tab b suits (λ m. Unit {0}) f i (suc p) m (omega (arith, f-is, is)) a')

    -- where the scratches are those after k steps, it is finished,
    lets : (n : Memory) (r : Bool) → Finished b lv f c (memory_of xs ms) n r → memory_of xs ms ≡ made tab al k → (r ≡ true) × (n ≡ worked tab al (suc k))
    lets n false h e = absurd (h.fires refl (guard_made e))
    lets n true h e =
        let out : memory_of (set xs count_at 0) ms ≡ worked tab al k = taken_out tab fit.sound al k xs ms e in
        (refl, h.yes refl ∙ ap (advanced b lv f c) out ∙ advanced-is (worked tab al k) ∙ ap (λ (x : ℕ). finishes tab al x (worked tab al k)) cell ∙ sym (one_more tab b suits k k_in))

    -- and told; else it is told that it could not be
    pub took-yes : (n : Memory) {r : Bool} → r ≡ true → Finished b lv f c (memory_of xs ms) n r → Took tab al k (memory_of xs ms) n (Ok c)
    took-yes n {r} q h = record {
      told = λ d e. let same : c ≡ d = cc in (sym same ∙ cell, omega (arith, same, is));
      waits = λ d e. cc;
      on = λ e. (ap Ok cell, (lets n r h e).1);
      no = λ d e. cc;
      clear = λ e. rw e (ended tab b suits).scratch;
    }

    pub took-no : (n : Memory) {r : Bool} → r ≡ false → Finished b lv f c (memory_of xs ms) n r → Took tab al k (memory_of xs ms) n (Err c)
    took-no n {r} q h = record {
      told = λ d e. cc;
      waits = λ d e. let same : c ≡ d = cc in (sym same ∙ cell, omega (arith, same, is));
      on = λ e. absurd (bool_apart (sym (lets n r h e).0 ∙ q));
      no = λ _ _. h.no q;
      clear = λ e. rw e (ended tab b suits).scratch;
    }
