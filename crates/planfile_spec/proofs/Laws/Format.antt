-- A trailer and a record, field by field, as a cursor reads them; columns, record by record. Assumes nothing.
use Rattle.std.specs.Prelude.{◌≡◌, refl, List, ℕ, ◌+◌, ◌-◌, ◌*◌, length, get_or, set, replicate}
use Rattle.std.proofs.Common.{sym, ap, ◌∙◌, arith, add-one}
use Rattle.plan.specs.Limits.{trailer_size, most_cells}
use Rattle.plan.proofs.Laws.Form.{no-records, next_record}
use Rattle.plan.specs.declared.Record.{Record}
use Rattle.plan.specs.declared.forms.Form.TheVariants.{Old, Wide}
use Rattle.planfile_spec.specs.Fields.{pair, number_at, parent_place, kind_place, width_place, depth_place, length_place, rank_place, start_place, begin_place, count_place, allowance_place, mark_place}
use Rattle.planfile_spec.specs.Format.{record_at, trailer_of}
use Rattle.planfile_spec.specs.Reading.{column, columns_of}
use Rattle.planfile_spec.specs.Read.{Reading}
use Rattle.plan.specs.Questions.{none}
use Rattle.planfile_spec.specs.declared.Trailer.{Trailer}

pub read_old : (f : List ℕ) (at a b c d e p k w h l s : ℕ) → p ≡ pair f at → a ≡ at + 2 → k ≡ get_or f a 0 → b ≡ a + 1 → w ≡ get_or f b 0 → c ≡ b + 1 → h ≡ get_or f c 0
    → d ≡ c + 1 → l ≡ get_or f d 0 → e ≡ d + 1 → s ≡ pair f e
    → ◌≡◌ {A = Record} (record { parent = p; kind = k; width = w; depth = h; rank = 0; label_length = l; label_start = s }) (record_at Old f at)
unfolding record_at number_at parent_place kind_place width_place depth_place length_place rank_place start_place
read_old f at a b c d e p k w h l s ep ea ek eb ew ec eh ed el ee es =
    let z : at + 0 ≡ at = omega arith in
    let b' : b ≡ at + 3 = omega arith in
    let c' : c ≡ at + 4 = omega arith in
    let d' : d ≡ at + 5 = omega arith in
    let e' : e ≡ at + 6 = omega arith in
    cc

pub read_wide : (f : List ℕ) (at a b c d e g p k h w l z s : ℕ) → p ≡ pair f at → a ≡ at + 2 → k ≡ get_or f a 0 → b ≡ a + 1 → h ≡ get_or f b 0 → c ≡ b + 1 → w ≡ pair f c
    → d ≡ c + 2 → l ≡ get_or f d 0 → e ≡ d + 1 → z ≡ get_or f e 0 → g ≡ e + 1 → s ≡ pair f g
    → ◌≡◌ {A = Record} (record { parent = p; kind = k; width = w; depth = h; rank = z; label_length = l; label_start = s }) (record_at Wide f at)
unfolding record_at number_at parent_place kind_place width_place depth_place length_place rank_place start_place
read_wide f at a b c d e g p k h w l z s ep ea ek eb eh ec ew ed el ee ez eg es =
    let z : at + 0 ≡ at = omega arith in
    let b' : b ≡ at + 3 = omega arith in
    let c' : c ≡ at + 4 = omega arith in
    let d' : d ≡ at + 6 = omega arith in
    let e' : e ≡ at + 7 = omega arith in
    let g' : g ≡ at + 8 = omega arith in
    cc

pub read_trailer : (f : List ℕ) (at a b c s n al m : ℕ) → at ≡ length f - trailer_size → s ≡ pair f at → a ≡ at + 2 → n ≡ pair f a → b ≡ a + 2 → al ≡ pair f b → c ≡ b + 2 → m ≡ pair f c
    → ◌≡◌ {A = Trailer} (record { begin = s; count = n; allowance = al; mark = m }) (trailer_of f)
unfolding trailer_of number_at begin_place count_place allowance_place mark_place
read_trailer f at a b c s n al m q es ea en eb el ec em =
    let z : at + 0 ≡ at = omega arith in
    let b' : b ≡ at + 4 = omega arith in
    let c' : c ≡ at + 6 = omega arith in
    cc

-- one record more
pub column-more : (f : ℕ → ℕ) (n : ℕ) → column f (n + 1) ≡ set (column f n) n (f n)
unfolding column
column-more f n = rw add-one

-- the columns of the first c records of a size from begin on, `rec` being the record at a place; the next record stands at `at`
pub record Filled (size : ℕ) (rec : ℕ → Record) (begin c at : ℕ) (ps ks ws ds qs ls ss : List ℕ) : Type 0 where
  pub next_at : at ≡ begin + size * c
  pub parents : ps ≡ column (λ c. (rec (begin + size * c)).parent) c
  pub kinds : ks ≡ column (λ c. (rec (begin + size * c)).kind) c
  pub widths : ws ≡ column (λ c. (rec (begin + size * c)).width) c
  pub depths : ds ≡ column (λ c. (rec (begin + size * c)).depth) c
  pub ranks : qs ≡ column (λ c. (rec (begin + size * c)).rank) c
  pub lengths : ls ≡ column (λ c. (rec (begin + size * c)).label_length) c
  pub starts : ss ≡ column (λ c. (rec (begin + size * c)).label_start) c

pub filled_none : (size : ℕ) (rec : ℕ → Record) (begin : ℕ) → Filled size rec begin 0 begin (replicate most_cells 0) (replicate most_cells 0) (replicate most_cells 0) (replicate most_cells 0) (replicate most_cells 0) (replicate most_cells 0) (replicate most_cells 0)
unfolding column
filled_none size rec begin = record { next_at = omega (arith, no-records size); parents = refl; kinds = refl; widths = refl; depths = refl; ranks = refl; lengths = refl; starts = refl }

module _ (size : ℕ) (rec : ℕ → Record) (begin c at : ℕ) (ps ks ws ds qs ls ss : List ℕ) (h : Filled size rec begin c at ps ks ws ds qs ls ss) where
  pub filled_more : (r : Record) (next : ℕ) → r ≡ rec at → next ≡ at + size
      → Filled size rec begin (c + 1) next (set ps c r.parent) (set ks c r.kind) (set ws c r.width) (set ds c r.depth) (set qs c r.rank) (set ls c r.label_length) (set ss c r.label_start)
  filled_more r next e n =
      let q : r ≡ rec (begin + size * c) = e ∙ ap rec h.next_at in
      record {
        next_at = omega (arith, h.next_at, next_record size c);
        parents = one (λ r. r.parent) ps h.parents q;
        kinds = one (λ r. r.kind) ks h.kinds q;
        widths = one (λ r. r.width) ws h.widths q;
        depths = one (λ r. r.depth) ds h.depths q;
        ranks = one (λ r. r.rank) qs h.ranks q;
        lengths = one (λ r. r.label_length) ls h.lengths q;
        starts = one (λ r. r.label_start) ss h.starts q;
      }
    where
      one : (g : Record → ℕ) (xs : List ℕ) → xs ≡ column (λ c. g (rec (begin + size * c))) c → r ≡ rec (begin + size * c) → set xs c (g r) ≡ column (λ c. g (rec (begin + size * c))) (c + 1)
      one g xs e q = sym (column-more (λ c. g (rec (begin + size * c))) c ∙ cc)

  pub filled-all : (al n : ℕ) → c ≡ n
      → ◌≡◌ {A = Reading} (record { refusal = none; allowance = al; columns = record { count = n; parent = ps; kind = ks; width = ws; depth = ds; rank = qs }; label_length = ls; label_start = ss })
      (columns_of none al n (λ c. rec (begin + size * c)))
  unfolding columns_of
  filled-all al n e = rw (← e, h.parents, h.kinds, h.widths, h.depths, h.ranks, h.lengths, h.starts)
