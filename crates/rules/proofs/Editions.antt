-- Settings that differ in their edition alone: what both have, whatever number of words each gives a worker.
use Prim.Native.Nat.{ℕ, ◌*◌}
use mathlib.Core.Path.{◌≡◌, ap, sym, subst}
use Rattle.rules.specs.Limits.{Bounds}
use Rattle.rules.specs.Make.{in_edition}
use Rattle.rules.specs.declared.Settings.{Settings}

pub edition_bounds : (e : ℕ) (g : Settings) → Bounds g → Bounds (in_edition e g)
edition_bounds e g b =
    record {
      kind1 = b.kind1;
      width1 = b.width1;
      width16 = b.width16;
      depth1 = b.depth1;
      depth64 = b.depth64;
      shift1 = b.shift1;
      shift_depth = b.shift_depth;
      rows2 = b.rows2;
      rows1024 = b.rows1024;
      workers1 = b.workers1;
      workers32 = b.workers32;
      cells = b.cells;
      stride_width = b.stride_width;
    }

module _ (g h : Settings) (same : h ≡ in_edition h.edition g) where
  pub same_bounds : Bounds g → Bounds h
  same_bounds b = subst (λ (x : Settings). Bounds x) (sym same) (edition_bounds h.edition g b)

  pub same_width : h.width ≡ g.width
  same_width = ap (λ (x : Settings). x.width) same

  pub same_workers : h.workers ≡ g.workers
  same_workers = ap (λ (x : Settings). x.workers) same

  pub same_cells : h.width * h.rows ≡ g.width * g.rows
  same_cells = ap (λ (x : Settings). x.width * x.rows) same
