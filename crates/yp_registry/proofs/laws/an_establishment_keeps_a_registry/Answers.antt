use Rattle.std.proofs.Common.{refl}
use Rattle.yp_filter.specs.Reading.{filter_in}
use Rattle.yp_terms.specs.declared.ask.FilterAsk.TheVariants.{All, Subtree, XPath}
use Rattle.yp_registry.proofs.Establishing.{AskedFiltersFit, first_kept, read_fits, registry_kept}
use Rattle.yp_registry.proofs.laws.an_establishment_keeps_a_registry.Goals as goal

pub returns-clause-first : goal.returns-clause-first
returns-clause-first c = first_kept

pub returns-clause-kept : goal.returns-clause-kept
returns-clause-kept c = registry_kept fit
  where
    fit : AskedFiltersFit
    fit nodes All = refl
    fit nodes (Subtree json) = read_fits nodes (filter_in nodes json) (c.a_filter_that_is_read_fits.ensures nodes json)
    fit nodes XPath = refl
