-- WHAT COPY REFUSES A CONTENT FOR: the questions put to the table that the content's clean copy has, with its label bytes. Assumes nothing.
use Rattle.std.specs.Prelude.{ℕ}
use Rattle.plan.specs.declared.Refusal.{Refusal}
use Rattle.content.specs.Content.{Content}
use Rattle.content.specs.Clean.{labels, entries, copy_refusal}

-- into an output of so many bytes
unfoldable pub content_refusal : Content → (output : ℕ) → Refusal
content_refusal c room = copy_refusal (entries 0 c.items) (labels c.items) c.allowance room
