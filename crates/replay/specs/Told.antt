-- The events that the code's words stand for: what it hands on of a word is small, and the settings of the first two words have cases of their own.
use Rattle.std.specs.Prelude.{ℕ, Ok}
use Rattle.rules.specs.declared.Answer.TheVariants.{Moving}
use Rattle.rules.specs.declared.Refusal.{Refusal}
use Rattle.runfile.specs.declared.item.Item.TheVariants.{Open, Make, Says}
use Rattle.replay.specs.Replay.{Event, Next, goes, ends, event}
use Rattle.replay.specs.declared.event.Done.{Done}
use Rattle.replay.specs.declared.event.Told.{Told}
use Rattle.replay.specs.declared.event.Told.TheVariants.{Opens, Makes, Does, Ends}

abbrev pub event_done : Done Refusal → Event
event_done d = event d.position (Says d.said) d.answer

-- the first two words are answered 0, or the file ends
abbrev pub next_told : ℕ → Told → Next
next_told position (Opens opening) = goes (event position (Open opening) (Ok Moving))
next_told position (Makes g) = goes (event position (Make g) (Ok Moving))
next_told position (Does d) = goes (event_done d)
next_told position (Ends fault) = ends fault
