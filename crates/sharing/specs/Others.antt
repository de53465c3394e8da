-- The share check of an open that is among those counted, from the counts less its own part: those of the others.
use Rattle.base.specs.Base.{Bool, terms_of, Open, ShareCounts}
use Rattle.sharing.specs.Sharing.{share_check, without_open}

unfoldable pub others_check : ShareCounts → Open → Bool
others_check c o = share_check (without_open o c) (terms_of o)
