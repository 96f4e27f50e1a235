mod Capacities
mod PointLemmas
