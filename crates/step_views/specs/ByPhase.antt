-- A step of a worker that is neither idle nor out of steps, by its phase: what it asks of the words, what it reads, and what it ends in.
use Rattle.std.specs.Prelude.{ℕ, ◌<◌, true, List, ◌≡◌, get_or}
use Rattle.rules.specs.Answers.{Out}
use Rattle.rules.specs.Apply.{apply_of}
use Rattle.rules.specs.Effects.{view_of}
use Rattle.rules.specs.Fit.{FitPool, SpanFits, past_window}
use Rattle.rules.specs.Layout.{Lent, puts_at, top_at, mark_at, index_at, first_of, second_of}
use Rattle.rules.specs.Step.{rule_of}
use Rattle.rules.specs.Windows.{has_windows, sizes_of}
use Rattle.rules.specs.Worker.{slot_at, phase_of}
use Rattle.rules.specs.declared.Settings.{Settings}
use Rattle.rules.specs.declared.Phase.{Phase}
use Rattle.rules.specs.declared.Sizes.{Sizes}
use Rattle.rules.specs.declared.Slot.{Slot}
use Rattle.rules.specs.declared.View.{View}
use Rattle.rules.specs.declared.Effect.{Effect}

-- what a queue's worker that is past its window phase has seen, where fitness asks for it
abbrev pub Spanned : Settings → Slot → Type 0
Spanned g s = has_windows g ≡ true → past_window s.number ≡ true → SpanFits g s

-- the words are a fit pool's, and those of a worker start at `at`
pub record Ready (g : Settings) (ws : List ℕ) (at : ℕ) : Type 0 where
  pub fit : FitPool g ws
  pub lent : Lent g ws at
  pub index : get_or ws (index_at at) 0 < g.width
  pub span : Spanned g (slot_at g ws at)

-- and those of a worker are `s`
pub record Loaded (g : Settings) (ws : List ℕ) (s : Slot) : Type 0 where
  pub fit : FitPool g ws
  pub index : s.index < g.width
  pub span : Spanned g s

-- what a worker reads whose words are `s`, in a phase
abbrev pub view_in : List ℕ → Slot → Phase → Sizes → View
view_in ws s phase sizes =
    record {
      top = get_or ws top_at 0;
      mark = get_or ws mark_at 0;
      sizes = sizes;
      puts = get_or ws puts_at 0;
      first = first_of ws s.index;
      second = second_of ws s.index;
      worker = record { value = s.value; index = s.index; phase = phase };
      kept = s;
    }

-- in the phase that its words hold
abbrev pub view_by : List ℕ → Settings → Slot → View
view_by ws g s = view_in ws s (phase_of g s) (sizes_of ws g)

-- the effect of its rule
abbrev pub effect_by : List ℕ → Settings → Slot → Effect
effect_by ws g s = rule_of g (view_by ws g s)

-- the rule's effect written
unfoldable pub rule_step : List ℕ → Settings → ℕ → Out
rule_step ws g at = apply_of ws g at (get_or ws (index_at at) 0) (rule_of g (view_of ws g at))
