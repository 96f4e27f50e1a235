-- The text of an upgrade.
use Rattle.std.specs.Prelude.{ℕ, List, ◌++◌, codes}
use Rattle.cache_model.specs.declared.version.TheConstants.{SHORT_VERSION}
use Rattle.cache_model.specs.Texts.{entry, line}

-- how many requests the certificate has, and its new version
abbrev pub upgrade_line : ℕ → List ℕ
upgrade_line requests = entry (entry (codes "upgraded requests") requests ++ codes " version") SHORT_VERSION

-- the text of an upgrade
abbrev pub upgrade_text : ℕ → List ℕ
upgrade_text requests = line (upgrade_line requests)
