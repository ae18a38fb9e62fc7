pub mod Near
pub mod Entries
pub use Rattle.route_search.specs.Reaches
pub use Rattle.link_graph.specs.Networks
