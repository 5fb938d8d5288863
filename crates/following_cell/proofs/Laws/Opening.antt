-- What a cell makes of its byte. Nothing that a reader must believe stands here. Assumes nothing.
use Rattle.std.specs.Prelude.{◌≡◌, List, ℕ, ◌+◌, ◌≤◌, ◌<◌, length, get_or}
use Rattle.std.proofs.Common.{◌∙◌}
use borrow.Author.Tests.{eq-eqb, ne_eqb, lt-ltb, le-ltb}
use Rattle.links.specs.Links.{link}
use Rattle.following_cell.specs.declared.Opened.{Opened}
use Rattle.following_cell.specs.declared.Halt.TheVariants.{Spent}
use Rattle.following_cell.specs.Opening.{nothing, once, hops, repeated, picked, waiting, answered, opened}

module _ (ls : List ℕ) (s kind a used : ℕ) {r : Opened} where
  pub answered_repeat : {first : ℕ} → kind ≡ 3 → first ≡ link ls s 0 → r ≡ repeated first a used → r ≡ answered ls s kind a used
  unfolding answered
  answered_repeat e ef er = er ∙ rw (ef, eq-eqb kind 3 e, answered)

  pub answered_choice : {first n : ℕ} → (kind ≡ 3 → ⊥) → kind ≡ 4 → first ≡ link ls s 0 → n ≡ hops ls first a → r ≡ picked n used → r ≡ answered ls s kind a used
  unfolding answered
  answered_choice z e ef en er = er ∙ rw (en, ef, ne_eqb kind 3 z, eq-eqb kind 4 e, answered)

  pub answered_wait : {first : ℕ} → (kind ≡ 3 → ⊥) → (kind ≡ 4 → ⊥) → first ≡ link ls s 0 → r ≡ waiting first a used → r ≡ answered ls s kind a used
  unfolding answered
  answered_wait z e ef er = er ∙ rw (ef, ne_eqb kind 3 z, ne_eqb kind 4 e, answered)

module _ (ls bs : List ℕ) (s kind used : ℕ) where
  pub opened-run : {n : ℕ} → kind ≡ 2 → n ≡ link ls s 0 → once n used ≡ opened ls bs s kind used
  unfolding opened
  opened-run e en = rw (en, eq-eqb kind 2 e, opened)

  pub opened-byte : {a : ℕ} {r : Opened} → (kind ≡ 2 → ⊥) → used < length bs → a ≡ get_or bs used 0 → r ≡ answered ls s kind a (used + 1) → r ≡ opened ls bs s kind used
  unfolding opened
  opened-byte z l ea er = er ∙ rw (ea, ne_eqb kind 2 z, lt-ltb used (length bs) l, opened)

  pub opened_spent : (kind ≡ 2 → ⊥) → length bs ≤ used → nothing Spent used ≡ opened ls bs s kind used
  unfolding opened
  opened_spent z l = rw (ne_eqb kind 2 z, le-ltb used (length bs) l, opened)
