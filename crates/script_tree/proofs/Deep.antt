-- Along a path, what was read stands at the levels of its blocks and events.
use Rattle.std.proofs.Common.{[], refl}
use Rattle.std.proofs.lemmas.Option.{none-some}
use Rattle.script_tree.specs.Grammar.{tree_of}
use Rattle.script_tree.specs.Levels.{Levels, HasLevels}
use Rattle.script_tree.specs.Reading.{State, start}
use Rattle.script_tree.proofs.AllStanding.{AllStands, moves_stand}
use Rattle.script_tree.proofs.Levelling.{levels_after, Leveled, moves_leveled, Extends, extends_back, extends_itself}
use Rattle.script_tree.proofs.Moves.{Moves}
use Rattle.script_tree.proofs.AtLevels.{shallow_outermost}

-- the levels of what was read, at which all stands, also among more levels
pub record LevelsMade (s : State) : Type 0 where
  pub made : Levels
  pub leveled : Leveled s made
  pub stand : (levels : Levels) → Extends made levels → AllStands s made levels

pub levels_first : LevelsMade start
levels_first = record {
  made = record { blocks = []; events = [] };
  leveled = record { blocks = refl; events = refl };
  stand = λ levels e. record {
    shallow = tt;
    texts = tt;
    blocks = λ place block is. absurd (none-some block is);
    events = λ place x is. absurd (none-some x is);
    frames = (record { what = tt; shallow = shallow_outermost; stmts = tt; events = tt }, tt);
  };
}

pub levels_next : (s t : State) → Moves s t → LevelsMade s → LevelsMade t
levels_next s t m x = record {
  made = levels_after s x.made m;
  leveled = moves_leveled s x.made m x.leveled;
  stand = λ levels e. moves_stand s x.made levels x.leveled (x.stand levels (extends_back s x.made levels m e)) m e;
}

-- a program has the levels that were made
pub has_levels : (s : State) → LevelsMade s → HasLevels (tree_of s)
has_levels s x =
    let all = x.stand x.made (extends_itself x.made) in
    record {
      levels = x.made;
      are = record {
        each_block = x.leveled.blocks;
        each_event = x.leveled.events;
        shallow = all.shallow;
        texts = all.texts;
        blocks = λ place level block at is. all.blocks place block is level at;
        events = λ place level e at is. all.events place e is level at;
      };
    }
