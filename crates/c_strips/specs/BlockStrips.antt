-- A run by strips on the list of a plan block. "The state of a run is two u64 in a lent array beside the block, which the caller lends at each call:
-- [1, sum of bad samples] while a run is open, [0, 0] while none is." What each call answers, tells and leaves. Definitions only.
use Rattle.std.specs.Prelude.{ℕ, List, [], ◌∷◌, eqb, get_or}
use Rattle.notation.specs.Choice.{when◌then◌else◌}
use Rattle.notation.specs.declared.Answer.{Answer}
use Rattle.c_told.specs.Told.{after_reading, told_by}
use Rattle.channels.specs.Channels.{Channels}
use Rattle.list.specs.declared.Plan.{Plan}
use Rattle.run_check.specs.Judging as Judging
use Rattle.run_check.specs.Judging.{Judgement}
use Rattle.run_strips.specs.Machine.{closed, open_of, strip_of, close_of}
use Rattle.run_strips.specs.Machine as Strips
use Rattle.run_strips.specs.declared.Opened.{Opened}
use Rattle.run_strips.specs.declared.State.{State}
use Rattle.run_strips.specs.declared.Stripped.{Stripped}
use Rattle.block_read.specs.Block.{read_of}
use Rattle.block_read.specs.Block.{Reading}

-- the state that a list and two words stand for; a first word that is not 1 stands for no open run
abbrev pub state_by : Plan → ℕ → ℕ → State
state_by p first sum = when eqb first 1 then record { plan = p; bad = sum } else closed

-- of a block's list
abbrev pub state_of : List ℕ → List ℕ → State
state_of bytes words = state_by (read_of bytes).plan (get_or words 0 0) (get_or words 1 0)

-- the words of no open run
abbrev pub no_run : List ℕ
no_run = 0 ∷ 0 ∷ []

-- the words that an accepted call leaves, by the sum in the state that it leaves; or those of a refused one
abbrev pub words_of : ℕ → ℕ → List ℕ → List ℕ
words_of number sum refused = when eqb number 0 then 1 ∷ sum ∷ [] else refused

-- opening: "the reader's refusal (7, 8, 9, 10), else what opening answers (10, 5, 6, or 0)"; what was open is not looked at
abbrev pub opened : List ℕ → Opened
opened bytes = open_of closed (read_of bytes).plan

abbrev pub open_by : Reading → Judgement → Answer
open_by reading judgement = after_reading reading (Judging.paper judgement)

abbrev pub open_answer : List ℕ → Answer
open_answer bytes = open_by (read_of bytes).answer (opened bytes).answer

-- "[1, 0] where accepted, else [0, 0]"
abbrev pub open_words : List ℕ → List ℕ
open_words bytes = words_of (open_answer bytes).number (opened bytes).state.bad no_run

-- "number, position, width, bad samples (0 of an opening)"
abbrev pub open_told : List ℕ → List ℕ
open_told bytes = told_by (open_answer bytes) 0

-- a strip: "11, 4 or 0; told number, position, width, bad samples of this strip"; a refused one leaves the words as they were
abbrev pub stripped : List ℕ → List ℕ → Channels → Stripped
stripped bytes words s = strip_of (state_of bytes words) s

abbrev pub strip_answer : List ℕ → List ℕ → Channels → Answer
strip_answer bytes words s = Strips.paper (stripped bytes words s).answer

abbrev pub strip_words : List ℕ → List ℕ → Channels → List ℕ
strip_words bytes words s = words_of (strip_answer bytes words s).number (stripped bytes words s).state.bad words

abbrev pub strip_told : List ℕ → List ℕ → Channels → List ℕ
strip_told bytes words s = told_by (strip_answer bytes words s) (stripped bytes words s).bad

abbrev pub strip_left : List ℕ → List ℕ → Channels → Channels
strip_left bytes words s = Strips.left_of (state_of bytes words) s

-- a close: "11 or 0; told number, position, width, sum of bad samples; state then [0, 0]"
abbrev pub close_answer : List ℕ → List ℕ → Answer
close_answer bytes words = Strips.paper (close_of (state_of bytes words)).answer

abbrev pub close_told : List ℕ → List ℕ → List ℕ
close_told bytes words = told_by (close_answer bytes words) (close_of (state_of bytes words)).bad
