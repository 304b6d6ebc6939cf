-- The account is kept by a write (`flush_keeps`): the law of crates/pieces (proofs/Accounts) at the run's fields.
-- No step forgets a failure (`remembers_twice`, `still_remembers`).
use Rattle.std.proofs.Common.{◌≡◌, ℕ, ◌≤◌, List, length, ◌∙◌}
use Rattle.printing.specs.declared.printed.Mode.{Mode}
use Rattle.pieces.specs.Stretch.{stretched}
use Rattle.pieces.proofs.Accounts.{writes}
use Rattle.buffers.specs.Kept.{Keeps, ReadsNothing, WritesNothing, Remembers, FlushedTo}
use Rattle.buffers.specs.declared.run.Run.{Run}

-- ---- what a step may not change
pub nothing_read_twice : {a b c : Run} → ReadsNothing a b → ReadsNothing b c → ReadsNothing a c
nothing_read_twice f g =
    record {
      read = g.read ∙ f.read;
      reads = g.reads ∙ f.reads;
      ended = g.ended ∙ f.ended;
      unread = g.unread ∙ f.unread;
    }

pub remembers_twice : {a b c : Run} → Remembers a b → Remembers b c → Remembers a c
remembers_twice f g = record { unread = λ e. g.unread (f.unread e); unwritten = λ e. g.unwritten (f.unwritten e) }

-- what is left as it was is not forgotten
pub still_remembers : {a b : Run} → b.unread ≡ a.unread → WritesNothing a b → Remembers a b
still_remembers r w = record { unread = λ e. r ∙ e; unwritten = λ e. w.unwritten ∙ e }

-- ---- a write
pub flush_keeps : (before after : Run) (out : List ℕ) → FlushedTo before after → before.stretch.used ≤ length out → (m : Mode) (piece ws : List ℕ) → Keeps m before piece ws out after piece ws out
flush_keeps before after out f fits m piece ws a =
    rw (f.stretch, f.reading.read, f.written, f.reading.ended) (writes m before.read before.written before.ended piece (stretched before.stretch ws out) fits a)
