-- A turn of the loop copies one mask more.
use Rattle.base.{specs.Base.{◌-◌, accounts, padded, take}, proofs.Laws.{Copied}}
use Rattle.format.proofs.copied.Given as goal

abbrev pub invariant-loop-account : goal.invariant-loop-account
invariant-loop-account l = Copied (take accounts (padded accounts l.masks)) l.copy l.account
