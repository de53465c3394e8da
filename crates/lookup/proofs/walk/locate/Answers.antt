use Rattle.base.{specs.Base.{◌>>=◌, is_empty, as_checked}}
use Rattle.paths.specs.Positions.{as_path}
use Rattle.lookup.specs.{Lookup.locate, Answers.{leaf_names, as_place, locate_parsed}}
use Rattle.lookup.proofs.walk.locate.Goals as goal

pub returns-in-Invalid : goal.returns-in-Invalid
unfolding as_checked as_place leaf_names locate_parsed as_path ◌>>=◌
returns-in-Invalid c = rw c.in-Invalid.is

pub returns-in-Root : goal.returns-in-Root
unfolding as_checked as_place leaf_names locate_parsed as_path locate is_empty ◌>>=◌
returns-in-Root c = rw c.in-Root.is

pub returns-in-Named : goal.returns-in-Named
unfolding leaf_names locate_parsed as_path ◌>>=◌
returns-in-Named c = rw c.in-Named.is c.locate_leaf.ensures
