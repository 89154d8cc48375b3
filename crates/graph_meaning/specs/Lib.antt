pub mod Graph
pub mod Reruns
