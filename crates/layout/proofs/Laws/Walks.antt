-- A chart of the columns of a table suits it, and what crate walk proves is then true of it: the proofs behind proofs/Walks.antt. Nothing that a reader must believe stands here. Assumes nothing.
use Rattle.std.specs.Prelude.{◌≡◌, refl, List, [], ◌∷◌, ◌++◌, ℕ, zero, suc, ◌+◌, ◌*◌, ◌<◌, length, get_or, replicate}
use Rattle.std.proofs.Common.{◌∙◌, sym, ap, arith, length-append, get_or-append-add}
use Rattle.std.proofs.Math.Decide.{ℕ_discrete}
use Rattle.std.proofs.lemmas.List.{length-replicate}
use Rattle.std.proofs.Math.ListN.{get_or-append}
use Rattle.plan.specs.Limits.{most_cells}
use Rattle.plan.specs.Plan.{Table, Is, parent, kind, box_width, box_depth, rank, row}
use Rattle.plan.specs.Fit.{Fit}
use Rattle.plan.specs.Questions.{layout, none, refusal, layout_given}
use Rattle.least.proofs.Asked.{layout-asks}
use Rattle.joining.specs.Joining.{Memory}
use Rattle.links.specs.Links.{Links}
use Rattle.links.specs.Build.{Linking}
use Rattle.links.proofs.Laws.Built.{links_are}
use Rattle.links.proofs.Laws.Linked.{zeros_get}
use Rattle.walk.specs.Machine.{Chart}
use Rattle.walk.specs.Turns.{stack_of}
use Rattle.walk.specs.Walked.{Suits}
use Rattle.walk.specs.Preorder.{preorder}
use Rattle.walk.specs.Opened.{begin, run, opened, OpenCells, EachOnce, InOrder}
use Rattle.walk.proofs.Visits as visits
use Rattle.layout.specs.TableChart.{numbers, chart_of}

column-length : (f : ℕ → ℕ) (k : ℕ) → length (numbers f k) ≡ k
unfolding numbers
column-length f zero = refl
column-length f (suc k) = length-append (numbers f k) (f k ∷ []) ∙ (let e = column-length f k in omega arith)

column-at : (f : ℕ → ℕ) (k c : ℕ) → c < k → get_or (numbers f k) c 0 ≡ f c
unfolding numbers
column-at f zero c l = absurd (omega arith)
column-at f (suc k) c l = go (ℕ_discrete c k) (column-at f k c)
  where
    go : Dec (c ≡ k) → (c < k → get_or (numbers f k) c 0 ≡ f c) → get_or (numbers f k ++ (f k ∷ [])) c 0 ≡ f c
    go (yes e) ih =
        let q : c ≡ length (numbers f k) + 0 = omega (arith, column-length f k) in
        ap (λ (i : ℕ). get_or (numbers f k ++ (f k ∷ [])) i 0) q ∙ get_or-append-add (numbers f k) (f k ∷ []) 0 0 ∙ ap f (sym e)
    go (no e) ih = get_or-append (numbers f k) (f k ∷ []) 0 c (omega (arith, column-length f k)) ∙ ih (omega arith)

-- they suit it
module _ (t : Table) (fit : Fit t) where
  at : (f : ℕ → ℕ) (c : ℕ) → Is t c → get_or (numbers f most_cells) c 0 ≡ f c
  at f c i = column-at f most_cells c (omega (arith, fit.not_too_many))

  linking : Linking (numbers (parent t) most_cells) (numbers (kind t) most_cells) (numbers (rank t) most_cells) (length t) (replicate (4 * most_cells) 0)
  linking =
      record {
        building = record {
          some = fit.some_cell;
          few = fit.not_too_many;
          parents = rw (column-length (parent t) most_cells) fit.not_too_many;
          ranks = rw (column-length (rank t) most_cells) (omega arith);
          room = rw (length-replicate {A = ℕ} (4 * most_cells) 0) (omega arith);
          before = λ c p l. rw (at (parent t) c l) (fit.sound c p l);
          clear = zeros_get (4 * most_cells);
        };
        kinds = rw (column-length (kind t) most_cells) fit.not_too_many;
      }

  pub chart_suits : (al : ℕ) → Suits t (chart_of t al)
  chart_suits al =
      record {
        fit = fit;
        links = links_are (numbers (parent t) most_cells) (numbers (kind t) most_cells) (numbers (rank t) most_cells) (length t) (replicate (4 * most_cells) 0) linking refl t (record { size = refl; parent_of = λ c i. sym (at (parent t) c i); kind_of = λ c i. sym (at (kind t) c i); rank_of = λ c i. sym (at (rank t) c i) });
        widths = rw (column-length (box_width t) most_cells) (omega arith);
        depths = rw (column-length (box_depth t) most_cells) (omega arith);
        tops = rw (column-length (row t) most_cells) (omega arith);
        wide_of = at (box_width t);
        deep_of = at (box_depth t);
        top_of = at (row t);
      }

-- THEOREMS: of a table that no question of Layout refuses, whatever the memory
module _ (t : Table) (al s p : ℕ) (unrefused : refusal layout (layout_given t al s p) ≡ none) (m : Memory) where
  fits : Fit t
  fits = ((layout-asks t al s p).0 unrefused).table.fit

  abbrev b : Chart
  b = chart_of t al

  linked : Links t b.links
  linked = (chart_suits t fits al).links

  -- at every turn the numbers up to the count are exactly the open cells, from the root down, each the parent of the next, at most 32
  pub open_cells : (n : ℕ) (cells : List ℕ) (count : ℕ) → stack_of cells count ≡ (run b n (begin b m)).stack → OpenCells t b m n cells count
  open_cells = visits.open_cells t fits b linked m

  -- the walk ends, and then every cell was opened exactly once, in preorder, siblings in order
  pub ends : (n : ℕ) × ((run b n (begin b m)).stack ≡ [])
  ends = visits.ends t fits b linked m

  pub opened-once : (n : ℕ) → (run b n (begin b m)).stack ≡ [] → (opened b m n ≡ preorder t 0) × EachOnce t (opened b m n) × InOrder t (opened b m n)
  opened-once n e = (visits.opened-in_order t fits b linked m n e, visits.opened-once t fits b linked m n e, visits.siblings_in_order t fits b linked m n e)
