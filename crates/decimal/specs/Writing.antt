-- What a writer's calls ask for, and what they do to it.
use Rattle.std.specs.Prelude.{◌≡◌, List, ℕ}
use Rattle.decimal.specs.declared.Writer.{Writer}
use Rattle.decimal.specs.Text.{Room, Wrote}

pub record HasRoom (w : Writer) (text : List ℕ) : Type 0 where
  pub fits : Room w.buf.now w.at text

-- a text is written behind what was there, into the same buffer
pub record Appended (old new : Writer) (text : List ℕ) : Type 0 where
  pub same : new.buf.ghost_name ≡ old.buf.ghost_name
  pub wrote : Wrote old.buf.now old.at text new.at new.buf.now
