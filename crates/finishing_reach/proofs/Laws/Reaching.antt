-- Reach: what each case of the call answers, and what is read. Nothing that a reader must believe stands here. Assumes nothing.
use Rattle.std.specs.Prelude.{◌≡◌, List, Bool, ℕ, ◌+◌, ◌*◌, ◌<◌, length, get_or, take, drop, T, ltb, Result, Ok, Err, IsErrAnd, ⊤}
use Rattle.std.proofs.Math.Path.{refl, ap}
use Rattle.std.proofs.Common.{◌∙◌, sym, arith}
use Rattle.std.proofs.Math.Bool.{true, false}
use Rattle.std.proofs.Math.ListN.{get_or-append}
use Rattle.whole.specs.Whole.{plus}
use Rattle.plan.specs.Limits.{scratch_size, second_size}
use Rattle.plan.specs.Lists.{mem}
use Rattle.plan.proofs.Laws.Lists.{from_show}
use Rattle.plan.specs.Plan.{Table, Is, cells}
use Rattle.plan.specs.Fit.{Fit}
use Rattle.plan.specs.Questions.{asked, or_else, answered, passed}
use Rattle.plan.proofs.Laws.Questions.{first-none}
use Rattle.plan.proofs.Laws.Answered.{answered_none, answered_some, refused_by, err_stops, ok_goes_on, passes}
use Rattle.plan.proofs.Laws.Calls.{reach-refusal}
use Rattle.plan.specs.declared.Refusal.{Refusal}
use Rattle.joining.specs.Joining.{mark}
use Rattle.layout.specs.TableChart.{chart_of}
use Rattle.layout.proofs.Laws.Walks.{chart_suits}
use Rattle.finishing_order.specs.Postorder.{postorder}
use Rattle.finishing_guard.specs.Guard.{count_at}
use Rattle.finishing_cell.specs.Made.{made}
use Rattle.finishing_asks.specs.Asks.{start_no, reach_no}
use Rattle.finishing_reach.specs.Reaching.{reached_of, Reaches}
use Rattle.finishing_step.specs.Stepping.{Holds}
use Rattle.finishing_reach.specs.Reading.{read}
use Rattle.finishing_cell.proofs.Laws.Final.{count-read, reaches}
use Rattle.finishing_reach.specs.declared.Sides.{Sides}
use Rattle.finishing_asks.proofs.Laws.Asks.{start-asks}
use Rattle.finishing_step.proofs.Laws.Stepping.{made-long}

cells-mem : (t : Table) (c : ℕ) → Is t c → T (mem c (cells t))
unfolding cells
cells-mem t c i = from_show 0 (length t) c (omega arith) (omega arith)

-- question 20 with the cell c: what it refuses; and a yes refuses nothing
refused_20 : (b : Bool) (c : ℕ) → ¬ ((asked 20 b c).number ≡ 0) → ((asked 20 b c).number ≡ 20) × ((asked 20 b c).cell ≡ c)
unfolding asked
refused_20 true c z = absurd (z refl)
refused_20 false c z = (refl, refl)

never : (n : ℕ) (b : Bool) (c : ℕ) → T b → (asked n b c).number ≡ 0
unfolding asked
never n true c h = refl
never n false c h = absurd h

module _ (t : Table) (al : ℕ) (xs ms : List ℕ) (c : ℕ) where
  abbrev no : Refusal
  no = start_no t al (length xs) (length ms)

  abbrev rest : List ℕ → Refusal
  rest finished = or_else (asked 16 (ltb c (length t)) 0) (asked 20 (mem c finished) c)

  -- whichever cells are finished
  no_of : (finished : List ℕ) → reach_no t al (length xs) (length ms) finished c ≡ or_else no (rest finished)
  no_of finished = reach-refusal t al (length xs) (length ms) finished c

  -- an answer that does not depend on them
  answered_all : (y : Result Sides Refusal) → ((finished : List ℕ) (v : Sides) → y ≡ answered (or_else no (rest finished)) v) → Reaches t al xs ms c y
  answered_all y h =
      let all : (finished : List ℕ) (v : Sides) → y ≡ answered (reach_no t al (length xs) (length ms) finished c) v = (λ finished v. rw (no_of finished) (h finished v)) in
      record {
        refuses = λ z. all (cells t) (record { left = 0; right = 0 }) ∙ answered_some _ _ z;
        reads = λ k g. all (take k (postorder t)) _;
        says = λ z e w. let f : y ≡ Ok (record { left = 0; right = 0 }) = all (cells t) _ ∙ answered_none _ _ z in cc;
      }

  pub reach-refused : (e : Refusal) (y : Result Sides Refusal) → Err e ≡ passed no → IsErrAnd y (λ d. d ≡ e) → Reaches t al xs ms c y
  reach-refused e y h p = answered_all y (λ finished v. err_stops v no e y h p (rest finished))

  module _ (u : ⊤) (h : Ok u ≡ passed no) where
    pub reach_unnamed : (e : Refusal) (y : Result Sides Refusal) → Err e ≡ passed (asked 16 (ltb c (length t)) 0) → IsErrAnd y (λ d. d ≡ e) → Reaches t al xs ms c y
    reach_unnamed e y q p = answered_all y (λ finished v. ok_goes_on no u h v (rest finished) y (err_stops v _ e y q p (asked 20 (mem c finished) c)))

    module _ (w : ⊤) (q : Ok w ≡ passed (asked 16 (ltb c (length t)) 0)) where
      only_20 : (finished : List ℕ) → reach_no t al (length xs) (length ms) finished c ≡ asked 20 (mem c finished) c
      only_20 finished = no_of finished ∙ first-none no _ (passes no u h) ∙ first-none (asked 16 (ltb c (length t)) 0) _ (passes _ w q)

      fits : Fit t
      fits = (start-asks t al xs ms (passes no u h)).0

      -- what the lent scratches hold at the places that are read
      count_held : (k : ℕ) → Holds t al k xs ms → get_or xs count_at 0 ≡ k
      count_held k h =
          ap (λ (l : List ℕ). get_or l count_at 0) h.scratch
          ∙ get_or-append (made t al k).rows (drop scratch_size xs) 0 count_at (omega (arith, (made-long t al k).rows))
          ∙ count-read t fits.sound al k

      module _ (l : c < length t) where
        mark_held : (k : ℕ) → Holds t al k xs ms → (i : ℕ) → i < 4 → mark ms c i ≡ mark (made t al k).marks c i
        mark_held k h i il =
            ap (λ (l : List ℕ). get_or l (4 * c + i) 0) h.second
            ∙ get_or-append (made t al k).marks (drop second_size ms) 0 (4 * c + i) (omega (arith, (made-long t al k).marks, fits.not_too_many))

        sides : (k : ℕ) → Holds t al k xs ms → (b : Bool) → mem c (take k (postorder t)) ≡ b
            → answered (asked 20 b c) (record { left = mark ms c 1; right = mark ms c 2 }) ≡ reached_of t al c (asked 20 b c)
        unfolding answered asked
        sides k h false q = refl
        sides k h true q =
            let f = reaches t (chart_of t al) (chart_suits t fits al) k c h.few (rw q tt) in
            (λ i. Ok (record { left = (mark_held k h 1 (omega arith) ∙ ap plus f.left) i; right = (mark_held k h 2 (omega arith) ∙ ap plus f.right) i }))

        read_is : (k : ℕ) → Holds t al k xs ms → read t xs ms c ≡ reached_of t al c (reach_no t al (length xs) (length ms) (take k (postorder t)) c)
        unfolding read
        read_is k h = rw (count_held k h, only_20 (take k (postorder t))) (sides k h (mem c (take k (postorder t))) refl)

        pub reach-read : {a : Result Sides Refusal} → a ≡ read t xs ms c → Reaches t al xs ms c a
        unfolding read
        reach-read q =
            record {
              refuses = λ y. absurd (y (ap (λ (x : Refusal). x.number) (only_20 (cells t)) ∙ never 20 (mem c (cells t)) c (cells-mem t c l)));
              reads = λ k h. q ∙ read_is k h;
              says = λ y e w.
                  let f = refused_by (asked 20 (mem c (take (get_or xs count_at 0) (postorder t))) c) (record { left = mark ms c 1; right = mark ms c 2 }) e (sym w ∙ q) in
                  let g = refused_20 (mem c (take (get_or xs count_at 0) (postorder t))) c f.1 in
                  (ap (λ (x : Refusal). x.number) f.0 ∙ g.0, ap (λ (x : Refusal). x.cell) f.0 ∙ g.1);
            }
