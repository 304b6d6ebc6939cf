-- `lines::summary::put_summary` meets its contract: the first line is put before the others, and both have room where the longest summary has. Assumes nothing.
use Rattle.std.proofs.Common.{ℕ, ◌≡◌, List, ◌++◌, length, ap, ◌∙◌, arith, length-append}
use Rattle.lines.specs.Area.{Written, put}
use Rattle.lines.specs.Summary.{counts_lines, summary_text, summary_bytes}
use Rattle.lines.proofs.Area.{put_put, put_room, last_none, last_put}
use Rattle.lines.proofs.Summaries.{counts_most, summary_fits_by}
use Rattle.lines.proofs.summary.put_summary.Goals as goal

pub returns-then-room-lt-SUMMARY_BYTES-clause-lines : goal.returns-then-room-lt-SUMMARY_BYTES-clause-lines
returns-then-room-lt-SUMMARY_BYTES-clause-lines g c = last_none summary_bytes _ _ (omega (arith, c.room.ensures, c.if-room-lt-SUMMARY_BYTES.true))

pub put_first-requires : goal.put_first-requires
put_first-requires g c =
    omega (
      arith,
      ap (λ (w : Written). length w.room) c.put_counts.ensures ∙ put_room c.args.lines.now (counts_lines c.args.s),
      counts_most c.args.s (omega (arith, c.well_formed)),
      c.room.ensures,
      c.if-room-lt-SUMMARY_BYTES.false,
    )

-- two pieces put, one before the other
put_both : (lines counted after : Written) (counts first : List ℕ) → counted ≡ put lines counts → after ≡ put counted first → after ≡ put lines (first ++ counts)
put_both lines counted after counts first c f = f ∙ (ap (λ (w : Written). put w first) c ∙ put_put lines counts first)

pub returns-clause-lines : goal.returns-clause-lines
unfolding summary_text
returns-clause-lines g c =
    put_both c.args.lines.now _ _ _ _ c.put_counts.ensures c.put_first.ensures.line
    ∙ last_put summary_bytes _ _ (omega (arith, c.room.ensures, c.if-room-lt-SUMMARY_BYTES.false))

pub returns-clause-short : goal.returns-clause-short
unfolding summary_text
returns-clause-short g c =
    let s = c.args.s in
    let lines = c.args.lines.now in
    let text = ap (λ (w : Written). length w.text) (put_both lines _ _ _ _ c.put_counts.ensures c.put_first.ensures.line) in
    omega (
      arith,
      text ∙ length-append (summary_text g.R.RefusalNumber.number s) lines.text,
      summary_fits_by g.R.RefusalNumber.number s c.put_first.ensures.short (omega (arith, c.well_formed)),
    )
